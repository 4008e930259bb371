-- What the tactics leave open of `costs::all_losses`.
use Rattle.std.proofs.Common.{◌≡◌, ℕ, ◌+◌, ◌<◌, get_or, refl, ap₂, ◌∙◌, add-one, length-take, get_or-take, arith}
use Rattle.states.specs.States.{firsts}
use Rattle.costs.proofs.all_losses.Goals as goal

pub loop-losses-init : goal.loop-losses-init
unfolding firsts
loop-losses-init c = record { few = omega arith; counted = refl }

pub loop-losses-preserved : goal.loop-losses-preserved
unfolding firsts
loop-losses-preserved c =
    let size = c.args.size in
    let s : ℕ = c.loop-losses.losses-index in
    let k : s < c.args.n = omega (arith, length-take {A = ℕ}) in
    let own : c.from-all.result ≡ get_or size s 0 = c.from-all.ensures ∙ get_or-take c.args.n size s 0 k in
    record {
      few = omega arith;
      counted = rw (add-one s) (ap₂ (λ (v w : ℕ). v + w) c.loop-losses.invariant.counted own);
    }
