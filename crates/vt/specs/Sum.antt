-- The sum of a string (document 01, "Rows, blocks, chunks"). The field calls it the string's Varshamov-Tenengolts
-- syndrome.
use Rattle.std.specs.Prelude.{ℕ, suc, ◌+◌, ◌*◌, ◌%◌, List, [], ◌∷◌, length}

-- the total of the positions of the ones, where the first bit stands at position i
unfoldable pub total : ℕ → List ℕ → ℕ
total i [] = 0
total i (b ∷ x) = i * b + total (suc i) x

-- "the total of the positions, from 1, of its ones, modulo w + 1"
unfoldable pub sum : List ℕ → ℕ
unfolding total
sum x = total 1 x % (length x + 1)
