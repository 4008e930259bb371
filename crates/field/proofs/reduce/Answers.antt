-- The powers come round.
use Rattle.std.proofs.Common.{◌≡◌, ◌+◌, ◌-◌, ◌^◌, sym, ap, ◌∙◌, arith}
use Rattle.field.specs.Field.{power}
use Rattle.field.proofs.Times.{power_period}
use Rattle.field.proofs.reduce.Goals as goal

pub returns-else-e-n : goal.returns-else-e-n
returns-else-e-n c =
    let a = c.args in
    let p = c.requires in
    let rest = a.e - c.order-n.result in
    let round : 2 ^ a.nc - 1 + rest ≡ a.e = omega arith in
    (omega arith, sym (power_period a.nc p.0 p.1 rest) ∙ ap (power a.nc) round)
