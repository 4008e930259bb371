-- What a bit that is put into a string adds to the total of the positions of its ones: its own position where it is a
-- one, and one for each one that it moves on. Assumes nothing.
use Prim.Native.Nat.{ℕ, zero, suc, ◌+◌, ◌*◌, ◌<◌, ◌≤◌}
use mathlib.Core.Path.{◌≡◌, refl, ap, ◌∙◌}
use mathlib.Core.Bool.{Bool, true, false}
use mathlib.Core.Logic.{inl, inr, ⊎_elim}
use mathlib.Core.List.{List, [], ◌∷◌, ◌++◌}
use native.Mathlib.Nat.{mul-zero, mul-one, suc-mul, add-zero, add-suc, suc-add}
use native.Mathlib.Numerals.{add-one}
use native.Mathlib.Omega.{arith}
use borrow.Author.Tests.{eqb-true, eqb-false}
use lib.Dec.{eqb}
use lib.ListN.{length, get_or, take, drop, drop_of_length-le}
use lib.Seq.{drop-cons}
use Rattle.bits.specs.Bits.{AllBits}
use Rattle.bits.proofs.Laws.{lt_or_ge}
use Rattle.vt.specs.Ones.{ones}
use Rattle.vt.specs.Places.{Reach}
use Rattle.vt.specs.Sum.{total}

-- a bit times a number is at most the number
pub times_bit : (k b : ℕ) → b < 2 → k * b ≤ k
times_bit k zero h = omega (arith, mul-zero k)
times_bit k (suc zero) h = omega (arith, mul-one k)
times_bit k (suc (suc b)) h = absurd (omega arith)

-- no more ones than bits
pub ones-length : (y : List ℕ) → AllBits y → ones y ≤ length y
unfolding ones
ones-length [] a = omega arith
ones-length (b ∷ y) a = let h = ones-length y a.1 in omega (arith, a.0)

-- moved on by one, each one counts one more
pub total_up : (i : ℕ) (x : List ℕ) → total (suc i) x ≡ total i x + ones x
unfolding total ones
total_up i [] = refl
total_up i (b ∷ x) = let h = total_up (suc i) x in omega (arith, suc-mul i b)

-- the total from place j on, taken apart at its first bit
pub total-next : (x : List ℕ) (j : ℕ) → j < length x
    → total (j + 1) (drop j x) ≡ (j + 1) * get_or x j 0 + total (j + 1 + 1) (drop (j + 1) x)
unfolding total
total-next x j h = rw (drop-cons x j 0 h, add-one (j + 1), add-one j) refl

-- the ones from place j on, taken apart at its first bit
pub ones-next : (x : List ℕ) (j : ℕ) → j < length x → ones (drop j x) ≡ get_or x j 0 + ones (drop (j + 1) x)
unfolding ones
ones-next x j h = rw (drop-cons x j 0 h, add-one j) refl

-- nothing is left at the end
pub total-end : (i : ℕ) (x : List ℕ) (j : ℕ) → length x ≤ j → total i (drop j x) ≡ 0
unfolding total
total-end i x j h = rw (drop_of_length-le x {i = j} h) refl

pub ones-end : (x : List ℕ) (j : ℕ) → length x ≤ j → ones (drop j x) ≡ 0
unfolding ones
ones-end x j h = rw (drop_of_length-le x {i = j} h) refl

-- what the bit b, put in at place k, adds where the first bit stands at position i
pub total-put : (i k b : ℕ) (y : List ℕ) → k ≤ length y
    → total i (take k y ++ (b ∷ drop k y)) ≡ total i y + ((i + k) * b + ones (drop k y))
unfolding total
total-put i zero b y h = let u = total_up i y in let e : (i + 0) * b ≡ i * b = rw (add-zero i) refl in omega arith
total-put i (suc k) b [] h = absurd (omega arith)
total-put i (suc k) b (c ∷ y) h =
    let u = total-put (suc i) k b y (omega arith) in
    let e : (suc i + k) * b ≡ (i + suc k) * b = rw (add-suc i k, suc-add i k) refl in
    omega arith

-- a bit whose own position, where it is a one, and the ones behind it are t in all adds t
pub put_adds : (k b t c : ℕ) (y : List ℕ) → k ≤ length y → c ≡ 1 + k → c * b + ones (drop k y) ≡ t
    → total 1 (take k y ++ (b ∷ drop k y)) ≡ total 1 y + t
put_adds k b t c y h e f = total-put 1 k b y h ∙ ap (λ (n : ℕ). total 1 y + n) (rw (← e) f)

-- from the start on, every t up to the length with the new bit has a place
pub reach-start : (t r e : ℕ) → t ≤ e → Reach 1 t r e
reach-start t r e h = ⊎_elim (λ l. inr (omega arith, h)) (λ l. inl l) (lt_or_ge r t)

-- where neither bit goes before c, one goes after it
pub reach-next : (i k t c r q e : ℕ) → c < 2 → k ≡ i + 1 → r ≡ c + q → (t ≡ r → ⊥) → (t ≡ i + r → ⊥) → Reach i t r e
    → Reach k t q e
reach-next i k t c r q e h f g m n w = ⊎_elim (λ u. inl (omega (arith, m))) (λ u. inr (omega (arith, n, u.0), u.1)) w

-- behind the last bit, where a 0 does not add t, a 1 does
pub reach-end : (i t r b e : ℕ) → r ≡ b → b ≤ t → e ≡ i + b → (t ≡ b → ⊥) → Reach i t r e → t ≡ i + r
reach-end i t r b e h k l m w = ⊎_elim (λ u. absurd (m (omega arith))) (λ u. omega (arith, u.0, u.1)) w

-- the place and the bit that add t
pub record Place (i t : ℕ) (y : List ℕ) : Type 0 where
  pub at : ℕ
  pub bit : ℕ
  pub inside : at ≤ length y
  pub small : bit < 2
  pub adds : total i (take at y ++ (bit ∷ drop at y)) ≡ total i y + t

-- a 0 put in here
zero_here : (i t : ℕ) (y : List ℕ) → t ≡ ones y → Place i t y
unfolding total
zero_here i t y e =
    record { at = 0; bit = 0; inside = omega arith; small = omega arith; adds = omega (arith, mul-zero i, total_up i y) }

-- a 1 put in here
one-here : (i t : ℕ) (y : List ℕ) → t ≡ i + ones y → Place i t y
unfolding total
one-here i t y e =
    record { at = 0; bit = 1; inside = omega arith; small = omega arith; adds = omega (arith, mul-one i, total_up i y) }

-- a place further on
later : (i t c : ℕ) (y : List ℕ) → Place (suc i) t y → Place i t (c ∷ y)
unfolding total
later i t c y p =
    record {
      at = suc p.at;
      bit = p.bit;
      inside = omega (arith, p.inside);
      small = p.small;
      adds = omega (arith, p.adds);
    }

-- such a place and bit exist
pub place : (i t e : ℕ) (y : List ℕ) → AllBits y → e ≡ i + length y → Reach i t (ones y) e → Place i t y
unfolding ones
place i t e [] a h (inl p) = zero_here i t [] (omega arith)
place i t e [] a h (inr p) = one-here i t [] (omega (arith, p.0, p.1))
place i t e (c ∷ y) a h w =
    go (eqb t (c + ones y)) refl (eqb t (i + (c + ones y))) refl (place (suc i) t e y a.1 (omega arith))
  where
    go : (s : Bool) → eqb t (c + ones y) ≡ s → (u : Bool) → eqb t (i + (c + ones y)) ≡ u
        → (Reach (suc i) t (ones y) e → Place (suc i) t y) → Place i t (c ∷ y)
    go true p u q ih = zero_here i t (c ∷ y) (eqb-true t (c + ones y) p)
    go false p true q ih = one-here i t (c ∷ y) (eqb-true t (i + (c + ones y)) q)
    go false p false q ih =
        later i t c y (ih
        (reach-next i (suc i) t c (c + ones y) (ones y) e a.0 (omega arith) refl (eqb-false t (c + ones y) p)
        (eqb-false t (i + (c + ones y)) q) w))
