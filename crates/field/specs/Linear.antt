-- What makes a check linear.
use Rattle.std.specs.Prelude.{ℕ, ◌+◌, ◌≡◌, List, [], ◌∷◌, ◌++◌, length}
use Rattle.std.specs.Int.Bits.{bit_xor}
use Rattle.field.specs.Field.{Elements}

-- the exclusive or of two lists, entry by entry
unfoldable pub xor_each : List ℕ → List ℕ → List ℕ
xor_each [] ys = []
xor_each (x ∷ xs) [] = []
xor_each (x ∷ xs) (y ∷ ys) = bit_xor x y ∷ xor_each xs ys

-- a check, f c of the chunks from chunk c on, is linear: it splits over exclusive or, and over a row cut in two
pub record Linear (nc : ℕ) (f : ℕ → List ℕ → ℕ) : Type 0 where
  pub over-xor : (c : ℕ) (xs ys : List ℕ) → length xs ≡ length ys → Elements nc xs → Elements nc ys
      → f c (xor_each xs ys) ≡ bit_xor (f c xs) (f c ys)
  pub over-cut : (c : ℕ) (xs ys : List ℕ) → f c (xs ++ ys) ≡ bit_xor (f c xs) (f (c + length xs) ys)
