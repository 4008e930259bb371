-- All strings of n bits and those that pass a test (document 01, "The list").
use Rattle.std.specs.Prelude.{ℕ, zero, suc, Bool, cond, List, [], ◌∷◌, ◌++◌, map}

-- "all strings of n bits in dictionary order, from all zeros to all ones"
unfoldable pub all_rows : ℕ → List (List ℕ)
all_rows zero = [] ∷ []
all_rows (suc n) = map (λ (x : List ℕ). 0 ∷ x) (all_rows n) ++ map (λ (x : List ℕ). 1 ∷ x) (all_rows n)

-- "keep those that" pass the test, "in that order"
unfoldable pub keep : (List ℕ → Bool) → List (List ℕ) → List (List ℕ)
keep f [] = []
keep f (x ∷ xs) = cond (f x) (x ∷ keep f xs) (keep f xs)

-- the first row of a list, the empty string where there is none
abbrev pub first_of : List (List ℕ) → List ℕ
first_of [] = []
first_of (x ∷ xs) = x
