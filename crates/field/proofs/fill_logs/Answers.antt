use Rattle.std.proofs.Common.{ℕ, ◌≡◌, ◌-◌, ◌^◌, sym, ap, ◌∙◌, subst, arith}
use Rattle.field.specs.Field.{power}
use Rattle.field.specs.Tables.{with_logs, Logs}
use Rattle.field.proofs.Double.{power_element}
use Rattle.field.proofs.Logs.{logs_more, logs_none, logs_filled}
use Rattle.field.proofs.fill_logs.Goals as goal

pub loop-e-init : goal.loop-e-init
loop-e-init c = logs_none c.args.nc c.args.logs.now

pub bounds-logs-x : goal.bounds-logs-x
bounds-logs-x c =
    let nc = c.args.nc in
    omega (arith, power_element nc c.requires.1 c.requires.2 c.loop-e.e, c.from-x.ensures, c.entry.ensures)

pub loop-e-preserved : goal.loop-e-preserved
loop-e-preserved c =
    let x : c.from-x.result ≡ power c.args.nc c.loop-e.e = c.from-x.ensures ∙ c.entry.ensures in
    rw (c.loop-e.invariant, x) (logs_more c.args.nc c.loop-e.e c.args.logs.now)

pub returns : goal.returns
returns c =
    let nc = c.args.nc in
    let xs = c.args.logs.now in
    let all : c.loop-e.e ≡ 2 ^ nc - 1 = omega arith in
    let done = c.loop-e.invariant ∙ ap (λ (k : ℕ). with_logs nc k xs) all in
    (done, subst (Logs nc) (sym done) (logs_filled nc c.requires.1 c.requires.2 xs c.requires.3))
