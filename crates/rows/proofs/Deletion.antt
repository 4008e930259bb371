-- Deletion as a relation: which places are kept and which are struck out. `comes_from` decides it. Assumes nothing.
use Prim.Native.Nat.{ℕ, zero, suc, ◌+◌}
use mathlib.Core.Path.{◌≡◌, refl, ap, subst}
use mathlib.Core.Bool.{Bool, true, false, ◌&&◌, ◌||◌, false≢true}
use mathlib.Core.List.{List, [], ◌∷◌}
use native.Mathlib.Omega.{arith}
use borrow.Author.Tests.{eq-eqb, eqb-true}
use lib.Dec.{eqb}
use lib.ListN.{length}
use Rattle.bits.specs.Bits.{AllBits}
use Rattle.bits.proofs.Laws.{both_left, both_right}
use Rattle.rows.specs.Deletion.{comes_from}

-- striking out k places of the first string leaves the second
pub data Strikes : List ℕ → ℕ → List ℕ → Type 0 where
  done : Strikes [] zero []
  stays : {b k : ℕ} {x y : List ℕ} → Strikes x k y → Strikes (b ∷ x) k (b ∷ y)
  struck : {b k : ℕ} {x y : List ℕ} → Strikes x k y → Strikes (b ∷ x) (suc k) y

-- striking out one place of the first string leaves the second
pub data One : List ℕ → List ℕ → Type 0 where
  here : {b : ℕ} {x : List ℕ} → One (b ∷ x) x
  there : {b : ℕ} {x y : List ℕ} → One x y → One (b ∷ x) (b ∷ y)

-- two tests that pass, and one of two
both : (s t : Bool) → s ≡ true → t ≡ true → (s && t) ≡ true
both s t p q = rw (p, q)

right : (s t : Bool) → t ≡ true → (s || t) ≡ true
right true t e = refl
right false t e = e

-- the relation, where a bit is kept
keeps : (b c k : ℕ) (x y : List ℕ) → b ≡ c → Strikes x k y → Strikes (b ∷ x) k (c ∷ y)
keeps b c k x y e s = subst (λ (v : ℕ). Strikes (b ∷ x) k (v ∷ y)) e (stays s)

-- the test passes on with a bit that stays, and with a bit that is struck out
stays-test : (b k : ℕ) (x y : List ℕ) → comes_from x k y ≡ true → comes_from (b ∷ x) k (b ∷ y) ≡ true
unfolding comes_from
stays-test b zero x y h = both (eqb b b) (comes_from x 0 y) (eq-eqb b b refl) h
stays-test b (suc k) x y h =
    right (comes_from x k (b ∷ y)) (eqb b b && comes_from x (suc k) y)
    (both (eqb b b) (comes_from x (suc k) y) (eq-eqb b b refl) h)

struck_test : (b k : ℕ) (x y : List ℕ) → comes_from x k y ≡ true → comes_from (b ∷ x) (suc k) y ≡ true
unfolding comes_from
struck_test b k x [] h = h
struck_test b k x (c ∷ y) h = rw h refl

-- where the relation holds the test passes
pub passes : {x : List ℕ} {k : ℕ} {y : List ℕ} → Strikes x k y → comes_from x k y ≡ true
unfolding comes_from
passes done = refl
passes (stays {b} {k} {x} {y} s) = stays-test b k x y (passes s)
passes (struck {b} {k} {x} {y} s) = struck_test b k x y (passes s)

-- where the test passes the relation holds
pub strikes : (x : List ℕ) (k : ℕ) (y : List ℕ) → comes_from x k y ≡ true → Strikes x k y
unfolding comes_from
strikes [] zero [] h = done
strikes [] zero (c ∷ y) h = absurd (false≢true h)
strikes [] (suc k) y h = absurd (false≢true h)
strikes (b ∷ x) zero [] h = absurd (false≢true h)
strikes (b ∷ x) zero (c ∷ y) h =
    keeps b c 0 x y (eqb-true b c (both_left (eqb b c) (comes_from x 0 y) h))
    (strikes x 0 y (both_right (eqb b c) (comes_from x 0 y) h))
strikes (b ∷ x) (suc k) [] h = struck (strikes x k [] h)
strikes (b ∷ x) (suc k) (c ∷ y) h = go (comes_from x k (c ∷ y)) refl h (strikes x k (c ∷ y)) (strikes x (suc k) y)
  where
    go : (t : Bool) → comes_from x k (c ∷ y) ≡ t → (t || (eqb b c && comes_from x (suc k) y)) ≡ true
        → (comes_from x k (c ∷ y) ≡ true → Strikes x k (c ∷ y)) → (comes_from x (suc k) y ≡ true → Strikes x (suc k) y)
        → Strikes (b ∷ x) (suc k) (c ∷ y)
    go true e h f g = struck (f e)
    go false e h f g =
        let e = both_left (eqb b c) (comes_from x (suc k) y) h in
        let s = both_right (eqb b c) (comes_from x (suc k) y) h in
        keeps b c (suc k) x y (eqb-true b c e) (g s)

-- k bits fewer
pub strikes_length : {x : List ℕ} {k : ℕ} {y : List ℕ} → Strikes x k y → length x ≡ k + length y
strikes_length done = refl
strikes_length (stays s) = let h = strikes_length s in omega arith
strikes_length (struck s) = let h = strikes_length s in omega arith

pub comes-length : (x : List ℕ) (k : ℕ) (y : List ℕ) → comes_from x k y ≡ true → length x ≡ k + length y
comes-length x k y h = strikes_length (strikes x k y h)

-- what is left of bits is bits
pub strikes_bits : {x : List ℕ} {k : ℕ} {y : List ℕ} → Strikes x k y → AllBits x → AllBits y
strikes_bits done a = a
strikes_bits (stays s) a = (a.0, strikes_bits s a.1)
strikes_bits (struck s) a = strikes_bits s a.1

pub comes-bits : (x : List ℕ) (k : ℕ) (y : List ℕ) → comes_from x k y ≡ true → AllBits x → AllBits y
comes-bits x k y h a = strikes_bits (strikes x k y h) a

-- nothing struck out leaves the string itself
pub strikes_none : (x y : List ℕ) → Strikes x 0 y → x ≡ y
strikes_none [] [] done = refl
strikes_none [] (c ∷ y) s = elim s [ ]
strikes_none (b ∷ x) [] s = elim s [ ]
strikes_none (b ∷ x) (c ∷ y) (stays s) = ap (λ (l : List ℕ). b ∷ l) (strikes_none x y s)

all_stay : (x : List ℕ) → Strikes x 0 x
all_stay [] = done
all_stay (b ∷ x) = stays (all_stay x)

-- one place struck out is one deletion, and the other way round
pub one_strikes : {x y : List ℕ} → One x y → Strikes x 1 y
one_strikes (here {b} {x}) = struck (all_stay x)
one_strikes (there d) = stays (one_strikes d)

pub one_passes : {x y : List ℕ} → One x y → comes_from x 1 y ≡ true
one_passes d = passes (one_strikes d)

of_strikes : {x y : List ℕ} → Strikes x 1 y → One x y
of_strikes (stays s) = there (of_strikes s)
of_strikes (struck {b} {x} {y} s) = subst (λ (l : List ℕ). One (b ∷ x) l) (strikes_none x y s) here

pub one : (x y : List ℕ) → comes_from x 1 y ≡ true → One x y
one x y h = of_strikes (strikes x 1 y h)
