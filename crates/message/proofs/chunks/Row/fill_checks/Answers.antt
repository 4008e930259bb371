-- There are no checks, or the logs of the elements, and the checks of the chunks.
use Rattle.std.proofs.Common.{rules, List, ℕ, ◌≡◌, length, arith}
use Rattle.field.proofs.Double.{size_low, size-high}
use Rattle.message.specs.declared.chunks.Row.{Row}
use Rattle.message.proofs.Assembly.{checks_are}
use Rattle.message.proofs.Legal.{Bounds, legal_bounds}
use Rattle.message.proofs.chunks.Row.fill_checks.Goals as goal

bounds : (r : Row) → Bounds r.layout
bounds r = legal_bounds r.layout r.is_legal

pub returns-then-r-eq0 : goal.returns-then-r-eq0
returns-then-r-eq0 c =
    let r = c.args.self.now in
    checks_are r.layout r.chunks.now c.args.out.now r.chunked c.requires (λ i h. absurd (omega arith))

pub fill_logs-requires : goal.fill_logs-requires
fill_logs-requires c =
    let r = c.args.self.now in
    let b = bounds r in
    (c.table-t.ensures, b.nc_low, b.nc_high, size-high r.layout.nc b.nc_high)

pub checks-requires : goal.checks-requires
checks-requires c =
    let r = c.args.self.now in
    let b = bounds r in
    let few = b.field (omega (arith, c.if-r-eq0.false)) in (
      (c.table-t.ensures, b.nc_low, b.nc_high, c.fill_logs.ensures.1, r.chunked.1),
      (omega (arith, r.chunked.0, few, size_low r.layout.nc b.nc_low), c.requires),
    )

pub returns : goal.returns
returns c =
    let r = c.args.self.now in
    let out : List ℕ = c.checks.new.out in
    let kept : length out ≡ length c.args.out.now = search rules in
    checks_are r.layout r.chunks.now out r.chunked (omega (arith, c.requires)) c.checks.ensures
