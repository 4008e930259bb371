use Rattle.std.proofs.Common.{ℕ, List, ◌+◌, ◌*◌, ◌<◌, ◌≤◌, ◌≡◌, length, get_or, set, ◌∙◌, refl, add-one, rules, arith, get_or-set_same, get_or-set_other}
use native.Mathlib.Decide.{ℕ_discrete}
use Rattle.std.proofs.Math.ListN.{length-set}
use Rattle.std.proofs.Math.Nat.{mul_comm}
use Rattle.states.specs.States.{stride, state, each}
use Rattle.states.proofs.States.{state_but}
use Rattle.states.proofs.next_left.Goals as goal

-- one block of the state has another number of losses left, no more than it has at most
module _ (size xs : List ℕ) (n s v : ℕ) (h : s < n) (long : s < length xs) where
  set-number : state (each size) (each (set xs s v)) n + get_or xs s 0 * stride (each size) s
      ≡ state (each size) (each xs) n + v * stride (each size) s
  set-number =
      rw (get_or-set_same xs s v 0 long) at
      (state_but (each size) (each (set xs s v)) (each xs) n s h (λ t k d. get_or-set_other xs s t v 0 d))

  set-within : ((t : ℕ) → t < n → get_or xs t 0 ≤ each size t) → v ≤ each size s
      → (t : ℕ) → t < n → get_or (set xs s v) t 0 ≤ each size t
  set-within low here t k = go (ℕ_discrete t s)
    where
      go : Dec (t ≡ s) → get_or (set xs s v) t 0 ≤ each size t
      go (yes e) = rw (e, get_or-set_same xs s v 0 long) here
      go (no e) = rw (get_or-set_other xs s t v 0 e) (low t k)

pub loop-s-init : goal.loop-s-init
unfolding stride
loop-s-init c =
    let long : length c.args.left ≡ 6 = search rules in
    record { long = long; within = c.requires.1; number = refl }

pub returns-then-next-s : goal.returns-then-next-s
returns-then-next-s c =
    let p = c.loop-s in
    let a = c.args in
    let v = get_or p.next p.s 0 in
    let unit = stride (each a.size) p.s in
    let long : p.s < length p.next = omega arith in
    let number = set-number a.size p.next a.n p.s (v + 1) c.loop-s-test.true long in
    let one : (v + 1) * unit ≡ v * unit + unit = omega arith in (
      set-within a.size p.next a.n p.s (v + 1) c.loop-s-test.true long p.invariant.within (omega arith),
      λ low. omega (arith, number, one, p.invariant.number),
    )

pub loop-s-preserved : goal.loop-s-preserved
unfolding stride
loop-s-preserved c =
    let p = c.loop-s in
    let a = c.args in
    let size = each a.size in
    let long : p.s < length p.next = omega arith in
    let number = set-number a.size p.next a.n p.s 0 c.loop-s-test.true long in
    let all : get_or p.next p.s 0 ≡ size p.s = omega (arith, p.invariant.within p.s c.loop-s-test.true) in
    let more : stride size (p.s + 1) ≡ size p.s * stride size p.s + stride size p.s =
    rw (add-one p.s) (omega (arith, mul_comm (stride size p.s) (size p.s + 1)))
    in
    record {
      long = length-set p.next p.s _ ∙ p.invariant.long;
      within = set-within a.size p.next a.n p.s 0 c.loop-s-test.true long p.invariant.within (omega arith);
      number = omega (arith, rw all at number, more, p.invariant.number);
    }
