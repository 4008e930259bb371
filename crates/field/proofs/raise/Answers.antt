-- Exponents add up, and come round.
use Rattle.std.proofs.Common.{◌-◌, arith}
use Rattle.field.proofs.Terms.{raise_low, raise_round}
use Rattle.field.proofs.raise.Goals as goal

pub returns-then-e-d : goal.returns-then-e-d
returns-then-e-d c = (omega arith, raise_low c.args.nc c.requires.0 c.requires.1 c.args.e c.args.c)

pub returns-else-e-d : goal.returns-else-e-d
returns-else-e-d c =
    let a = c.args in
    let rest = a.e - (c.order.result - a.c) in
    (omega arith, raise_round a.nc c.requires.0 c.requires.1 a.e a.c rest (omega arith))
