-- A quotient by 2 ^ e is a product with the power that e lacks to the order.
use Rattle.std.proofs.Common.{ℕ, ◌-◌, ap, ◌∙◌}
use Rattle.field.specs.Field.{power, times}
use Rattle.field.proofs.Times.{times_element}
use Rattle.erasures.proofs.Erasures.{quotient_one, quotient}
use Rattle.erasures.proofs.divide.Goals as goal

pub returns-then-e-eq0 : goal.returns-then-e-eq0
returns-then-e-eq0 c =
    let a = c.args in
    let p = c.requires in
    let one = rw c.if-e-eq0.true at c.log_of-e.ensures.1 in
    (p.1.0, λ e he h. quotient_one a.nc p.0.1 p.0.2 a.x a.d e one h)

pub returns : goal.returns
returns c =
    let a = c.args in
    let p = c.requires in
    let g = c.log_of-e in
    let r = c.shift in
    let is = r.ensures ∙ ap (λ (n : ℕ). times a.nc (power a.nc (n - g.result)) a.x) c.order.ensures in (
      rw r.ensures (times_element a.nc p.0.1 p.0.2 _ a.x p.1.0),
      λ e he h. quotient a.nc p.0.1 p.0.2 a.x a.d e g.result r.result he g.ensures.0 g.ensures.1 is h,
    )
