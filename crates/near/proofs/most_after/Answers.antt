use Rattle.std.proofs.Common.{ℕ, ◌+◌, ◌-◌, ◌*◌, ◌<◌, get_or, refl, ap, ◌∙◌, add-one, arith, length-take}
use Rattle.std.proofs.lemmas.List.{get_or-take}
use Rattle.states.specs.States.{firsts}
use Rattle.near.proofs.most_after.Goals as goal

pub loop-s-init : goal.loop-s-init
unfolding firsts
loop-s-init c = record { low = omega arith; added = refl }

pub loop-s-preserved : goal.loop-s-preserved
unfolding firsts
loop-s-preserved c =
    let a = c.args in
    let p = c.loop-s in
    let from = p.s * ((a.columns + 1) * 13) + (a.columns - a.j) * 13 in
    let inside : p.s < a.shape.n = omega (arith, length-take a.shape.n a.left) in
    let left = c.from.ensures ∙ get_or-take a.shape.n a.left p.s 0 inside in
    let entry = c.from-most.ensures ∙ ap (λ (e : ℕ). get_or a.after.now (from + e) 0) left in
    record {
      low = omega (arith, c.from-most.ensures, c.type_inv.after (from + c.from.result));
      added = rw (add-one p.s) (omega (arith, p.invariant.added, entry));
    }
