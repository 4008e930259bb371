-- The least string of bits that loses just so many against the received row: its first bit. Rests on the laws of greedy
-- matching (consistent). Assumes nothing.
use Prim.Native.Nat.{ℕ, zero, suc, ◌+◌, ◌-◌, ◌<◌, ◌≤◌}
use mathlib.Core.Path.{◌≡◌, refl, sym, ap, ◌∙◌}
use mathlib.Core.Bool.{Bool, true, false, cond, true≢false}
use mathlib.Core.Logic.{◌⊎◌, inl, inr, ⊎_elim}
use mathlib.Core.List.{List, [], ◌∷◌}
use native.Mathlib.Omega.{arith}
use borrow.Author.Tests.{eq-eqb, ne_eqb, eqb-true}
use lib.Dec.{eqb}
use lib.ListN.{length, get_or, take, drop, length-drop}
use lib.Seq.{length-take-le, drop-cons, get_or-drop}
use Rattle.bits.specs.Bits.{AllBits, number}
use Rattle.bits.proofs.Laws.{bit_at, bits-drop}
use Rattle.consistent.specs.Greedy.{losses}
use Rattle.consistent.proofs.Greedy.{losses-most}
use Rattle.consistent.proofs.Shift.{lost-more, piece_loses}
use Rattle.floor.specs.Floor.{next_bit, least_lost, bit_of}
use Rattle.floor.proofs.Prefix.{number-one}

-- where the received row has ended all bits are lost
all-lost : (x : List ℕ) → losses x [] ≡ length x
unfolding losses
all-lost [] = refl
all-lost (b ∷ x) = ap suc (all-lost x)

-- the first bit b is above the least, or it is the least, and it is lost just where that is
abbrev First : (b : ℕ) (y : List ℕ) (lost : ℕ) → Type 0
First b y lost = (bit_of (next_bit y 0) lost < b) ⊎ ((b ≡ bit_of (next_bit y 0) lost) × (losses (b ∷ []) y ≡ lost))

-- a bit that takes the next one, where not all bits are lost
takes : (c : ℕ) (y : List ℕ) (a w : ℕ) → c < 2 → a < w → First c (c ∷ y) (least_lost c a w)
unfolding losses
takes c y a w h l = go c (eqb a 0) (eqb a w) refl h
  where
    go : (c : ℕ) (t u : Bool) → eqb a w ≡ u → c < 2 → First c (c ∷ y) (cond t 0 (cond u 1 c))
    go zero true u e h = inr (refl, refl)
    go (suc zero) true u e h = inr (refl, refl)
    go zero false false e h = inr (refl, refl)
    go (suc zero) false false e h = inl (omega arith)
    go zero false true e h = absurd (omega (arith, eqb-true a w e))
    go (suc zero) false true e h = absurd (omega (arith, eqb-true a w e))
    go (suc (suc c)) t u e h = absurd (omega arith)

-- a bit that is lost
loses : (b c : ℕ) (y : List ℕ) (a w : ℕ) → b < 2 → c < 2 → (b ≡ c → ⊥) → First b (c ∷ y) (least_lost c (suc a) w)
unfolding losses
loses b c y a w h k n = rw (ne_eqb (suc a) 0 (λ e. absurd (omega arith))) (go b c (eqb (suc a) w) h k n)
  where
    go : (b c : ℕ) (u : Bool) → b < 2 → c < 2 → (b ≡ c → ⊥) → First b (c ∷ y) (cond u 1 c)
    go zero zero u h k n = absurd (n refl)
    go (suc zero) (suc zero) u h k n = absurd (n refl)
    go zero (suc zero) true h k n = inr (refl, refl)
    go zero (suc zero) false h k n = inr (refl, refl)
    go (suc zero) zero true h k n = inr (refl, refl)
    go (suc zero) zero false h k n = inl (omega arith)
    go zero (suc (suc c)) u h k n = absurd (omega arith)
    go (suc zero) (suc (suc c)) u h k n = absurd (omega arith)
    go (suc (suc b)) c u h k n = absurd (omega arith)

-- the first bit of a string of bits, whatever it loses
least_first : (b : ℕ) (z y : List ℕ) → b < 2 → AllBits y
    → First b y (least_lost (next_bit y 0) (losses (b ∷ z) y) (suc (length z)))
unfolding losses
least_first b z [] h q =
    let n : ℕ = suc (length z) in
    rw (all-lost z, ne_eqb n 0 (λ e. absurd (omega arith)), eq-eqb n n refl) (go b h)
  where
    go : (b : ℕ) → b < 2 → First b [] 1
    go zero h = inr (refl, refl)
    go (suc zero) h = inl (omega arith)
    go (suc (suc b)) h = absurd (omega arith)
least_first b z (c ∷ y) h q = go (eqb b c) refl
  where
    go : (t : Bool) → eqb b c ≡ t
        → First b (c ∷ y) (least_lost c (cond t (losses z y) (suc (losses z (c ∷ y)))) (suc (length z)))
    go true e = rw (← eqb-true b c e) (takes b y (losses z y) (suc (length z)) h (omega (arith, losses-most z y)))
    go false e = loses b c y (losses z (c ∷ y)) (suc (length z)) h q.0 (λ i. true≢false (sym (eq-eqb b c i) ∙ e))

-- a row x that lost e of its first g bits, and loses left of the w bits behind them: the first of these
module _ (x y : List ℕ) (xb : AllBits x) (yb : AllBits y) (g e left p : ℕ) (at : p + e ≡ g)
    (lost : losses (take g x) y ≡ e) where
  -- it is above the least bit, or it is that, and then as many are lost
  pub first_bit : (w : ℕ) → 0 < w → g + w ≤ length x → losses (take (g + w) x) y ≡ e + left
      → let r = least_lost (next_bit y p) left w in let b = bit_of (next_bit y p) r in
      (b < number 1 (drop g x)) ⊎ ((number 1 (drop g x) ≡ b) × (losses (take (g + 1) x) y ≡ e + r))
  first_bit zero h long l = absurd (omega arith)
  first_bit (suc w) h long l =
      let b : ℕ = get_or x g 0 in
      let t : List ℕ = drop (suc g) x in
      let split : drop g x ≡ b ∷ t = drop-cons x g 0 (omega arith) in
      let place : g - e ≡ p = omega arith in
      let piece = piece_loses x y g (suc w) e left (omega arith) lost l in
      let lose : losses (b ∷ take w t) (drop p y) ≡ left = rw (split, place) at piece in
      let many : length (take w t) ≡ w = length-take-le w t (omega (arith, length-drop (suc g) x)) in
      let zero-on : p + 0 ≡ p = omega arith in
      let next : next_bit (drop p y) 0 ≡ next_bit y p = rw zero-on at (get_or-drop p y 0 1) in
      let one = lost-more x y g 1 (omega arith) in
      let more : losses (take (g + 1) x) y ≡ e + losses (b ∷ []) (drop p y) = rw (lost, place, split) at one in
      let bit : number 1 (drop g x) ≡ b = ap (number 1) split ∙ number-one (b ∷ t) in
      let first = rw (next, lose, many) at (least_first b (take w t) (drop p y) (bit_at x xb g) (bits-drop p y yb)) in
      rw bit (⊎_elim inl (λ i. inr (i.0, more ∙ ap (λ (n : ℕ). e + n) i.1)) first)
