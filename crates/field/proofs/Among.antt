-- Tests of what is among the entries of a list, and what they say. Assumes nothing.
use Prim.Native.Nat.{ℕ, zero, suc, ◌<◌, ◌≤◌}
use mathlib.Core.Path.{◌≡◌, refl, subst}
use mathlib.Core.Bool.{Bool, true, false}
use mathlib.Core.List.{List, [], ◌∷◌}
use native.Mathlib.Decide.{dec_le}
use native.Mathlib.Nat.{le_of_suc-le-suc, not-suc-le-zero}
use native.Mathlib.Omega.{arith}
use borrow.Author.Tests.{eqb-true, eq-eqb}
use lib.Dec.{T, eqb}
use lib.ListN.{length, get_or}

either : Bool → Bool → Bool
either true b = true
either false b = b

both : Bool → Bool → Bool
both true b = b
both false b = false

both_left : (a b : Bool) → T (both a b) → T a
unfolding both
both_left true b t = tt
both_left false b t = t

both_right : (a b : Bool) → T (both a b) → T b
unfolding both
both_right true b t = t
both_right false b t = absurd t

-- x is in the list
unfoldable pub has : ℕ → List ℕ → Bool
unfolding either
has x [] = false
has x (y ∷ ys) = either (eqb y x) (has x ys)

pub has_at : (x : ℕ) (ys : List ℕ) → T (has x ys) → (k : ℕ) × (k < length ys) × (get_or ys k 0 ≡ x)
unfolding has
has_at x [] t = absurd t
has_at x (y ∷ ys) t = go (eqb y x) refl t (has_at x ys)
  where
    go : (b : Bool) → eqb y x ≡ b → T (either b (has x ys))
        → (T (has x ys) → (k : ℕ) × (k < length ys) × (get_or ys k 0 ≡ x))
        → (k : ℕ) × (k < length (y ∷ ys)) × (get_or (y ∷ ys) k 0 ≡ x)
    go true e t later = (0, omega arith, eqb-true y x e)
    go false e t later =
        let r = later t in
        (suc r.0, omega arith, r.2)

pub at_has : (x : ℕ) (ys : List ℕ) (k : ℕ) → k < length ys → get_or ys k 0 ≡ x → T (has x ys)
unfolding has
at_has x [] k h e = absurd (not-suc-le-zero h)
at_has x (y ∷ ys) zero h e = rw (eq-eqb y x e) tt
at_has x (y ∷ ys) (suc k) h e = go (eqb y x) (at_has x ys k (le_of_suc-le-suc h) e)
  where
    go : (b : Bool) → T (has x ys) → T (either b (has x ys))
    go true t = tt
    go false t = t

-- every number from 1 to n is in the list
unfoldable pub all_in : ℕ → List ℕ → Bool
unfolding both has
all_in zero ys = true
all_in (suc n) ys = both (has (suc n) ys) (all_in n ys)

pub all_in_has : (n : ℕ) (ys : List ℕ) → T (all_in n ys) → (x : ℕ) → 0 < x → x ≤ n → T (has x ys)
unfolding all_in
all_in_has zero ys t x p h = absurd (omega arith)
all_in_has (suc n) ys t x p h = go (dec_le x n) (all_in_has n ys (both_right (has (suc n) ys) (all_in n ys) t))
  where
    go : Dec (x ≤ n) → ((y : ℕ) → 0 < y → y ≤ n → T (has y ys)) → T (has x ys)
    go (yes l) below = below x p l
    go (no m) below =
        let e : suc n ≡ x = omega arith in
        subst (λ (y : ℕ). T (has y ys)) e (both_left (has (suc n) ys) (all_in n ys) t)
