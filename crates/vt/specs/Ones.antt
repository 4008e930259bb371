-- How many ones a string has. The field calls it the string's weight.
use Rattle.std.specs.Prelude.{ℕ, ◌+◌, List, [], ◌∷◌}

-- the number of ones of a string of bits
unfoldable pub ones : List ℕ → ℕ
ones [] = 0
ones (b ∷ x) = b + ones x
