use Rattle.std.proofs.Common.{sym, ap, ap₂, ◌∙◌, get_or, refl}
use Rattle.std.specs.Int.Bits.{bit_xor}
use Rattle.field.specs.Exponents.{sum_to}
use Rattle.field.specs.Field.{power}
use Rattle.field.proofs.Terms.{sum-next}
use Rattle.field.proofs.sum.Goals as goal

pub loop-e-init : goal.loop-e-init
unfolding sum_to
loop-e-init c = refl

pub loop-e-preserved : goal.loop-e-preserved
loop-e-preserved c =
    let a = c.args in
    let p = c.loop-e in
    let here = c.entry-s.ensures ∙ ap (power a.nc) c.from.ensures in
    ap₂ bit_xor p.invariant here ∙ sym (sum-next p.e-index (λ k. power a.nc (get_or a.es.now k 0)))
