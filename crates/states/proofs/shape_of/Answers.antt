use Rattle.std.proofs.Common.{ℕ, ◌+◌, ◌*◌, ◌<◌, ◌≡◌, Fits, w8, get_or, refl, ap, ap₂, sym, ◌∙◌, add-one, rules, arith, get_or-take, length-take}
use Rattle.std.proofs.Math.ListN.{length-set}
use Rattle.std.proofs.Math.Nat.{mul-le-mul}
use Rattle.states.specs.States.{stride, each}
use Rattle.states.proofs.Entries.{one_more}
use Rattle.states.proofs.States.{byte_strides}
use Rattle.states.proofs.shape_of.Goals as goal

pub loop-s-init : goal.loop-s-init
unfolding stride
loop-s-init c = record { long = refl; all = refl; counts = λ t h. absurd (omega arith) }

pub overflow_mul-states : goal.overflow_mul-states
overflow_mul-states c =
    let a = c.args in
    let p = c.loop-s in
    let passed : p.s < a.n = omega (arith, length-take a.n a.size) in
    let byte : (t : ℕ) → t < p.s → Fits w8 (get_or a.size t 0) = λ t h. search rules in
    let few = byte_strides a.size p.s (omega arith) (λ t h. omega (arith, byte t h)) in
    let own : Fits w8 (get_or a.size p.s 0) = search rules in
    let is = c.from.ensures ∙ get_or-take a.n a.size p.s 0 (omega arith) in
    let m = mul-le-mul {n₁ = p.states} {m₁ = c.from.result + 1} {n₂ = 281474976710656} {m₂ = 256}
    (omega (arith, few)) (omega (arith, is)) in
    record { fits = omega (arith, m) }

pub loop-s-preserved : goal.loop-s-preserved
unfolding stride
loop-s-preserved c =
    let a = c.args in
    let size = each a.size in
    let p = c.loop-s in
    let passed : p.s < a.n = omega (arith, length-take a.n a.size) in
    let is = c.from.ensures ∙ get_or-take a.n a.size p.s 0 (omega arith) in
    let next : stride size (p.s + 1) ≡ stride size p.s * (size p.s + 1) = ap (stride size) (add-one p.s) in
    record {
      long = length-set p.stride p.s p.states ∙ p.invariant.long;
      all = ap₂ (λ (u v : ℕ). u * (v + 1)) p.invariant.all is ∙ sym next;
      counts = one_more (λ t v. v ≡ stride size t) p.stride p.s p.states (omega arith) p.invariant.counts
          p.invariant.all;
    }
