-- Deletion (document 01, "The list"): "striking out some k of X's places leaves the received bits in their order". The
-- field calls x a supersequence of y.
use Rattle.std.specs.Prelude.{ℕ, zero, suc, Bool, true, false, ◌&&◌, ◌||◌, List, [], ◌∷◌, eqb}

-- y comes from x by deleting k bits: each place of x in turn is struck out, while some of the k are left, or kept as the
-- next bit of y
unfoldable pub comes_from : (x : List ℕ) (k : ℕ) (y : List ℕ) → Bool
comes_from [] zero [] = true
comes_from [] zero (c ∷ y) = false
comes_from [] (suc k) y = false
comes_from (b ∷ x) zero [] = false
comes_from (b ∷ x) zero (c ∷ y) = eqb b c && comes_from x zero y
comes_from (b ∷ x) (suc k) [] = comes_from x k []
comes_from (b ∷ x) (suc k) (c ∷ y) = comes_from x k (c ∷ y) || (eqb b c && comes_from x (suc k) y)
