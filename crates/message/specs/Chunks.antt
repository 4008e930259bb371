-- A row that is given as the numbers of its chunks (document 01, "Rows, blocks, chunks").
use Rattle.std.specs.Prelude.{ℕ, zero, suc, ◌+◌, ◌*◌, ◌≡◌, length, get_or}
use mathlib.Core.List.{List, [], ◌∷◌, flat_map}
use Rattle.bits.specs.Bits.{digits}
use Rattle.field.specs.Field.{Elements}
use Rattle.message.specs.declared.Layout.{Layout}

-- the row whose chunks, of nc bits each, are these numbers
abbrev pub row_of : (nc : ℕ) → List ℕ → List ℕ
row_of nc cs = flat_map (digits nc) cs

-- the numbers of the chunks of a row of this layout
abbrev pub Chunked : Layout → List ℕ → Type 0
Chunked l cs = (length cs ≡ l.l1 * l.l2) × Elements l.nc cs

-- count of the numbers, from a first one on, each stride after the last: those of a block are neighbours, those of a
-- chunk-string stand l2 apart
unfoldable pub picked : (start stride count : ℕ) → List ℕ → List ℕ
picked start stride zero cs = []
picked start stride (suc n) cs = get_or cs start 0 ∷ picked (start + stride) stride n cs
