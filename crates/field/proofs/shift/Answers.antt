-- Exponents add up.
use Rattle.std.proofs.Common.{sym, ap, ◌∙◌}
use Rattle.field.specs.Field.{power, times}
use Rattle.field.proofs.Times.{times_of_zero, times_power}
use Rattle.field.proofs.shift.Goals as goal

pub returns-then-x-eq0 : goal.returns-then-x-eq0
returns-then-x-eq0 c =
    let p = power c.args.nc c.args.e in
    sym (ap (times c.args.nc p) c.if-x-eq0.true ∙ times_of_zero c.args.nc p)

pub returns : goal.returns
returns c =
    let a = c.args in
    c.entry.ensures ∙ c.reduce.ensures.1
    ∙ sym (times_power a.nc c.requires.1 c.requires.2 a.e c.log_of-d.result)
    ∙ ap (times a.nc (power a.nc a.e)) c.log_of-d.ensures.1
