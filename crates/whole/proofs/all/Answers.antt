use Rattle.std.proofs.Common.{ℕ, ◌+◌, ◌*◌, ◌<◌, get_or, refl, ap, ◌∙◌, add-one, arith, length-take}
use Rattle.std.proofs.lemmas.List.{get_or-take}
use Rattle.states.specs.States.{firsts}
use Rattle.whole.proofs.all.Goals as goal

pub loop-s-init : goal.loop-s-init
unfolding firsts
loop-s-init c = record { low = omega arith; added = refl }

pub loop-s-preserved : goal.loop-s-preserved
unfolding firsts
loop-s-preserved c =
    let a = c.args in
    let p = c.loop-s in
    let inside : p.s < a.n = omega (arith, length-take a.n a.left) in
    let left = c.from.ensures ∙ get_or-take a.n a.left p.s 0 inside in
    let entry = c.from-sum.ensures ∙ ap (λ (e : ℕ). get_or a.table.now (p.s * 13 + e) 0) left in
    record {
      low = omega (arith, c.from-sum.ensures, c.type_inv.table (p.s * 13 + c.from.result));
      added = rw (add-one p.s) (omega (arith, p.invariant.added, entry));
    }
