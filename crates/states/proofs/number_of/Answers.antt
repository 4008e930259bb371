use Rattle.std.proofs.Common.{ℕ, ◌+◌, ◌*◌, ◌<◌, ◌≤◌, ◌≡◌, Fits, w8, get_or, refl, ap, ap₂, add-one, rules, arith}
use Rattle.std.proofs.Math.Nat.{mul-le-mul}
use Rattle.states.specs.States.{stride, state, each}
use Rattle.states.proofs.States.{byte_strides}
use Rattle.states.proofs.number_of.Goals as goal
use Rattle.states.proofs.number_of.Goals.{After-from}

-- what a block adds is at most 255 strides of six bytes
term-low : (c : After-from) → c.from.result * get_or c.args.shape.stride c.loop-s.s 0 ≤ 255 * 281474976710656
term-low c =
    let shape = c.args.shape in
    let s = c.loop-s.s in
    let byte : Fits w8 (get_or c.args.left s 0) = search rules in
    let bytes : (t : ℕ) → t < s → Fits w8 (get_or shape.size t 0) = λ t h. search rules in
    let few = byte_strides shape.size s (omega arith) (λ t h. omega (arith, bytes t h)) in
    mul-le-mul {n₁ = c.from.result} {m₁ = get_or shape.stride s 0} {n₂ = 255} {m₂ = 281474976710656}
    (omega (arith, c.from.ensures)) (omega (arith, c.requires.1.counts s (omega arith), few))

pub loop-s-init : goal.loop-s-init
unfolding state
loop-s-init c = record { number = refl; low = omega arith }

pub overflow_mul-q : goal.overflow_mul-q
overflow_mul-q c = record { fits = omega (arith, term-low (goal.at.overflow_mul-q c).After-from) }

pub overflow_add-q : goal.overflow_add-q
overflow_add-q c = record { fits = omega (arith, term-low (goal.at.overflow_add-q c).After-from) }

pub loop-s-preserved : goal.loop-s-preserved
unfolding state
loop-s-preserved c =
    let size = each c.args.shape.size in
    let left = each c.args.left in
    let s = c.loop-s.s in
    let own = ap₂ (λ (u v : ℕ). u * v) c.from.ensures (c.requires.1.counts s (omega arith)) in
    let next : state size left (s + 1) ≡ state size left s + left s * stride size s = ap (state size left) (add-one s) in
    record {
      number = omega (arith, own, next, c.loop-s.invariant.number);
      low = omega (arith, term-low (goal.at.loop-s-preserved c).After-from);
    }
