-- Document 01's marked cases, one table.
use Rattle.std.specs.Prelude.{ℕ, Bool, true, ◌&&◌, List, [], ◌∷◌, eqb, length, take}
use Rattle.bits.specs.Bits.{unpack, same}
use Rattle.vt.specs.Mend.{mended}
use Rattle.message.specs.Layout.{layout, row_bits}
use Rattle.message.specs.Message.{block_sums, string_sums, checks, message, encode}
use Rattle.message.specs.Read.{message_refusal}
use Rattle.message.specs.declared.Layout.{Layout}
use Rattle.consistent.specs.List.{ListAnswer, list_answer, list_slice}

-- a marked case: what is given, and what the paper says comes of it
pub data Case : Type 0 where
  -- a layout and a packed row have these block sums, chunk-string sums and checks
  has-sums : Layout → (row block_sums string_sums checks : List ℕ) → Case
  -- a layout and a packed row have this message
  has-message : Layout → (row message : List ℕ) → Case
  -- a length, a sum and bits pick this string
  picks : (w s : ℕ) (bits string : List ℕ) → Case
  -- for a message, m, the received row packed and the list slice, listing answers this refusal and count, and the slice
  -- holds this
  lists : (message : List ℕ) (m : ℕ) (received slice : List ℕ) (refusal count : ℕ) (after : List ℕ) → Case
  -- a message is refused by this number
  refuses : (message : List ℕ) (refusal : ℕ) → Case

-- the row of a layout that stands in packed bytes
unfoldable pub row_of : Layout → List ℕ → List ℕ
unfolding unpack
row_of l packed = take (row_bits l) (unpack packed)

-- the answer has this refusal and this count
unfoldable pub answers : ListAnswer → (refusal count : ℕ) → Bool
answers a q n = eqb a.refusal q && eqb a.count n

-- what the case says holds of the definitions
unfoldable pub holds : Case → Bool
unfolding same answers row_of block_sums string_sums checks message mended list_answer list_slice message_refusal
holds (has-sums l row bs ss cs) =
    same (block_sums l (row_of l row)) bs && same (string_sums l (row_of l row)) ss && same (checks l (row_of l row)) cs
holds (has-message l row m) = same (message l (row_of l row)) m
holds (picks w s bits string) = same (mended w s bits) string
holds (lists s m received slice q count after) =
    answers (list_answer s received m (length slice)) q count && same (list_slice s received m slice) after
holds (refuses s q) = eqb (message_refusal s) q

unfoldable pub hold_all : List Case → Bool
unfolding holds
hold_all [] = true
hold_all (c ∷ cs) = holds c && hold_all cs

-- the row of cases 1 and 2, Example 1 of source document 002
example_row : List ℕ
example_row = 0x4A ∷ 0x50 ∷ 0x3E ∷ 0x77 ∷ 0x10 ∷ 0x24 ∷ 0x46 ∷ 0x80 ∷ []

-- its message, by the first byte after the head and the last byte
example_message : (first last : ℕ) → List ℕ
example_message first last =
    0x52 ∷ 0x53 ∷ 0x4D ∷ 0x00 ∷ 0x01 ∷ 0x05 ∷ 0x03 ∷ 0x04 ∷ 0x04 ∷ first ∷ 0x34 ∷ 0xB5 ∷ 0xD0 ∷ 0x96 ∷ 0xDA ∷ last ∷ []

-- the message of cases 3 to 5, by its sums
small : (blockSum stringSum : ℕ) → List ℕ
unfolding encode
small b c = encode (layout 1 1 3 0) (b ∷ []) (c ∷ []) []

-- the message of cases 7 and 8, by its chunk-string sum
two_blocks : (stringSum : ℕ) → List ℕ
unfolding encode
two_blocks c = encode (layout 2 1 4 0) (2 ∷ 0 ∷ []) (c ∷ []) []

-- the table: cases 1 to 11 in their order, of which 8, 9 and 11 are two each
unfoldable pub marked : List Case
unfolding example_row example_message small two_blocks encode
marked =
    has-sums (layout 5 3 4 4) example_row (10 ∷ 6 ∷ 3 ∷ 4 ∷ 11 ∷ []) (11 ∷ 20 ∷ 4 ∷ []) (11 ∷ 6 ∷ 13 ∷ 2 ∷ [])  -- case 1
    ∷ has-message (layout 5 3 4 4) example_row (example_message 0xA6 0x40)  -- case 2
    ∷ lists (small 0 0) 0 [] (0xEE ∷ 0xEE ∷ 0xEE ∷ []) 0 2 (0x00 ∷ 0xA0 ∷ 0xEE ∷ [])  -- case 3
    ∷ lists (small 0 0) 2 (0x00 ∷ []) (0xEE ∷ 0xEE ∷ []) 0 1 (0x00 ∷ 0xEE ∷ [])  -- case 4
    ∷ lists (small 0 1) 0 [] (0xEE ∷ []) 0 0 (0xEE ∷ [])  -- case 5
    ∷ lists (encode (layout 1 1 3 1) (0 ∷ []) (0 ∷ []) (5 ∷ [])) 0 [] (0xEE ∷ 0xEE ∷ []) 0 1 (0xA0 ∷ 0xEE ∷ [])  -- case 6
    ∷ lists (two_blocks 1) 6 (0x3C ∷ []) (0xEE ∷ 0xEE ∷ []) 0 1 (0x4F ∷ 0xEE ∷ [])  -- case 7
    ∷ lists (two_blocks 2) 6 (0x3C ∷ []) (0xEE ∷ 0xEE ∷ 0xEE ∷ []) 0 2 (0x36 ∷ 0x39 ∷ 0xEE ∷ [])  -- case 8
    ∷ lists (two_blocks 2) 6 (0x3C ∷ []) (0xEE ∷ []) 9 0 (0x36 ∷ [])  -- case 8, a list slice of one byte
    ∷ picks 4 2 (0 ∷ 1 ∷ 0 ∷ []) (0 ∷ 1 ∷ 0 ∷ 0 ∷ [])  -- case 9
    ∷ picks 4 2 (1 ∷ 1 ∷ 1 ∷ []) (1 ∷ 1 ∷ 0 ∷ 1 ∷ [])  -- case 9
    ∷ picks 1 1 [] (1 ∷ [])  -- case 10
    ∷ refuses (example_message 0xD6 0x40) 5  -- case 11
    ∷ refuses (example_message 0xA6 0x41) 6  -- case 11
    ∷ []
