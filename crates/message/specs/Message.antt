-- The side message of a row (document 01, "The side message").
use Rattle.std.specs.Prelude.{ℕ, zero, suc, ◌+◌, ◌*◌, ◌/◌}
use mathlib.Core.List.{List, [], ◌∷◌, ◌++◌, flat_map, map}
use Rattle.bits.specs.Bits.{number, digits, bytes_for, pack}
use Rattle.field.specs.Field.{check}
use Rattle.vt.specs.Sum.{sum}
use Rattle.message.specs.Layout.{block_bits, string_bits, numbers, blocks, chunk_strings, chunks}
use Rattle.message.specs.declared.Layout.{Layout}

-- how often w can be halved, at most f times, before nothing is left
unfoldable pub halvings : (f w : ℕ) → ℕ
halvings zero w = 0
halvings (suc f) zero = 0
halvings (suc f) (suc w) = suc (halvings f (suc w / 2))

-- "as many bits as w needs in binary"
unfoldable pub width : ℕ → ℕ
unfolding halvings
width w = halvings w w

-- the most numbers of a message: l1 + l2 is at most 256 in a legal layout, and r at most 16
abbrev pub most_numbers : ℕ
most_numbers = 272

-- the bits of the fields of a message: l1 block sums, l2 chunk-string sums, r checks
unfoldable pub fields_length : Layout → ℕ
unfolding width
fields_length l = l.l1 * width (block_bits l) + l.l2 * width (string_bits l) + l.r * l.nc

-- the length in bytes that a layout gives its message: the nine bytes of the head, and the packed fields
unfoldable pub message_bytes : Layout → ℕ
unfolding fields_length
message_bytes l = 9 + bytes_for (fields_length l)

-- the sums of a row's blocks
unfoldable pub block_sums : Layout → List ℕ → List ℕ
unfolding blocks sum
block_sums l x = map sum (blocks l x)

-- the sums of a row's chunk-strings
unfoldable pub string_sums : Layout → List ℕ → List ℕ
unfolding chunk_strings sum
string_sums l x = map sum (chunk_strings l x)

-- the sums of a row: those of its blocks, then those of its chunk-strings
abbrev pub sums : Layout → List ℕ → List ℕ
sums l x = block_sums l x ++ string_sums l x

-- "a chunk is also a number, first bit highest": the r checks of a row
unfoldable pub checks : Layout → List ℕ → List ℕ
unfolding chunks number check numbers
checks l x = map (λ (i : ℕ). check l.nc i (map (number l.nc) (chunks l x))) (numbers 0 l.r)

-- "bytes 52 53 4D (the mark RSM), version 00 01, then one byte each for l1, l2, nc, r"
unfoldable pub head : Layout → List ℕ
head l = 0x52 ∷ 0x53 ∷ 0x4D ∷ 0x00 ∷ 0x01 ∷ l.l1 ∷ l.l2 ∷ l.nc ∷ l.r ∷ []

-- the bits after the head: "packed without gaps: l1 block sums, l2 chunk-string sums, r checks. A sum of a string of
-- length w takes as many bits as w needs in binary; a check takes nc bits"
unfoldable pub field_bits : Layout → (block_sums string_sums checks : List ℕ) → List ℕ
unfolding width digits flat_map
field_bits l bs ss cs =
    flat_map (digits (width (block_bits l))) bs ++ flat_map (digits (width (string_bits l))) ss ++ flat_map (digits l.nc) cs

-- the message with these sums and checks; "spare bits at the end are 0"
unfoldable pub encode : Layout → (block_sums string_sums checks : List ℕ) → List ℕ
unfolding head field_bits pack
encode l bs ss cs = head l ++ pack (field_bits l bs ss cs)

-- the message of a row under a layout
unfoldable pub message : Layout → List ℕ → List ℕ
unfolding encode block_sums string_sums checks
message l x = encode l (block_sums l x) (string_sums l x) (checks l x)
