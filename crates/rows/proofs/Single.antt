-- Where at most one row passes: the first row kept, and how many rows are kept. Assumes nothing.
use Prim.Native.Nat.{ℕ, ◌≤◌}
use mathlib.Core.Path.{◌≡◌, refl, subst}
use mathlib.Core.Bool.{Bool, true}
use mathlib.Core.Logic.{inl, inr}
use mathlib.Core.List.{List, [], ◌∷◌}
use native.Mathlib.Omega.{arith}
use lib.ListN.{length}
use Rattle.rows.specs.Order.{Less, Mem, Ascending, Row}
use Rattle.rows.specs.Rows.{all_rows, keep, first_of}
use Rattle.rows.proofs.Order.{less_irrefl, rows-ascending, keep-ascending, row_kept, kept_row}

-- the first of a list that has x and nothing else
first_is : (x : List ℕ) (xs : List (List ℕ)) → Mem x xs → ((y : List ℕ) → Mem y xs → y ≡ x) → first_of xs ≡ x
first_is x [] m only = absurd m
first_is x (y ∷ ys) m only = only y (inl refl)

-- where one row of n bits passes and no other does, it is the first one kept
pub only_one : (f : List ℕ → Bool) (n : ℕ) (x : List ℕ) → Row n x → f x ≡ true
    → ((y : List ℕ) → Row n y → f y ≡ true → y ≡ x) → first_of (keep f (all_rows n)) ≡ x
only_one f n x r h only =
    first_is x (keep f (all_rows n)) (row_kept n f x r h) (λ y m. let k = kept_row n f y m in only y k.0 k.1)

-- a list in order, any two members of which are equal, has at most one
few : (xs : List (List ℕ)) → Ascending xs → ((y z : List ℕ) → Mem y xs → Mem z xs → y ≡ z) → length xs ≤ 1
few [] a same = omega arith
few (x ∷ []) a same = omega arith
few (x ∷ (y ∷ ys)) a same =
    absurd (less_irrefl y (subst (λ (v : List ℕ). Less v y) (same x y (inl refl) (inr (inl refl))) a.0.0))

-- where any two rows of n bits that pass are equal, at most one is kept
pub at_most_one : (f : List ℕ → Bool) (n : ℕ) → ((y z : List ℕ) → Row n y → Row n z → f y ≡ true → f z ≡ true → y ≡ z)
    → length (keep f (all_rows n)) ≤ 1
at_most_one f n same =
    few (keep f (all_rows n)) (keep-ascending f (all_rows n) (rows-ascending n))
    (λ y z p q. let a = kept_row n f y p in let b = kept_row n f z q in same y z a.0 b.0 a.1 b.1)
