-- Greedy matching: a row is laid against the received row from the left, and each of its bits that equals the next
-- received bit takes it. Whatever bits were deleted, this gives the row one loss count for each of its pieces, its own
-- table.
use Rattle.std.specs.Prelude.{ℕ, suc, ◌+◌, cond, List, [], ◌∷◌, eqb}

-- what is left of y when x takes it bit by bit from the left
unfoldable pub eat : (x y : List ℕ) → List ℕ
eat [] y = y
eat (b ∷ x) [] = []
eat (b ∷ x) (c ∷ y) = cond (eqb b c) (eat x y) (eat x (c ∷ y))

-- how many bits of x took nothing
unfoldable pub losses : (x y : List ℕ) → ℕ
losses [] y = 0
losses (b ∷ x) [] = suc (losses x [])
losses (b ∷ x) (c ∷ y) = cond (eqb b c) (losses x y) (suc (losses x (c ∷ y)))

-- the losses of each piece, against what the earlier ones left
unfoldable pub table : List (List ℕ) → List ℕ → List ℕ
unfolding eat losses
table [] y = []
table (p ∷ ps) y = losses p y ∷ table ps (eat p y)

-- the total of a table: "a loss pattern holds one count for each block and their sum"
unfoldable pub in_all : List ℕ → ℕ
in_all [] = 0
in_all (a ∷ counts) = a + in_all counts
