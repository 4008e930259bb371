-- Listing (document 01, "The list" and "Operations and their refusal table"): what is answered, and what the list slice
-- holds afterwards, for any message, packed row, bit count and slice.
use Rattle.std.specs.Prelude.{ℕ, ◌-◌, ◌/◌, min, not, cond, ◌||◌, List, [], ◌∷◌, ◌++◌, map, eqb, ltb, length, take, drop}
use Rattle.refusal.specs.Refusal.{Check, first_refusal}
use Rattle.bits.specs.Bits.{bytes_for, pack, unpack, fits}
use Rattle.rows.specs.Slice.{flat}
use Rattle.message.specs.Read.{layout_of, message_checks}
use Rattle.consistent.specs.Consistent.{most_losses, bits_of, the_list}

-- "only the first 65,536 bytes of a list slice are used"
abbrev pub used_bytes : ℕ
used_bytes = 65536

-- how many rows fit whole in that part of a list slice of so many bytes
unfoldable pub room : (s : List ℕ) (slice : ℕ) → ℕ
unfolding layout_of
room s slice = min slice used_bytes / bytes_for (bits_of s)

-- the rows to be listed: the list for the m bits that stand in the packed row
unfoldable pub wanted : (s row : List ℕ) (m : ℕ) → List (List ℕ)
unfolding the_list unpack
wanted s row m = the_list s m (take m (unpack row))

-- what is checked of the received row: "m above n, or n − m above 12"; "a row .. of another byte count than its bits
-- need, or a spare bit 1"
unfoldable pub row_checks : (s row : List ℕ) (m : ℕ) → List Check
unfolding layout_of fits
row_checks s row m = (7, ltb (bits_of s) m || ltb most_losses (bits_of s - m)) ∷ (8, not (fits m row)) ∷ []

-- what is checked of a list slice of so many bytes: "more consistent rows than fit whole in the list slice"
unfoldable pub room_check : (s row : List ℕ) (m slice : ℕ) → List Check
unfolding room wanted
room_check s row m slice = (9, ltb (room s slice) (length (wanted s row m))) ∷ []

-- document 01's rows 1 to 8, which leave the list slice unchanged
unfoldable pub input_checks : (s row : List ℕ) (m : ℕ) → List Check
unfolding message_checks row_checks
input_checks s row m = message_checks s ++ row_checks s row m

-- what listing refuses, for a message, a packed row of m bits and a slice of so many bytes: rows 1 to 9
unfoldable pub list_refusal : (s row : List ℕ) (m slice : ℕ) → ℕ
unfolding input_checks room_check first_refusal
list_refusal s row m slice = first_refusal (input_checks s row m ++ room_check s row m slice)

-- an answer of listing as the papers number it: the refusal, 0 where there is none, and the number of consistent rows,
-- 0 where it refuses
pub record ListAnswer : Type 0 where
  pub refusal : ℕ
  pub count : ℕ

-- what listing answers: "the number of consistent rows, which is the length of this list". With `list_slice` below it is
-- a function of message, row, bit count and slice and of nothing else, so the archive gives in December the list that
-- it gave in March.
unfoldable pub list_answer : (s row : List ℕ) (m slice : ℕ) → ListAnswer
unfolding list_refusal wanted
list_answer s row m slice =
    record {
      refusal = list_refusal s row m slice;
      count = cond (eqb (list_refusal s row m slice) 0) (length (wanted s row m)) 0;
    }

-- the bytes that listing puts at the start of a slice of so many bytes: the first rows, as many as fit, packed one
-- after another
unfoldable pub written_rows : (s row : List ℕ) (m slice : ℕ) → List ℕ
unfolding room wanted pack flat
written_rows s row m slice = flat (map pack (take (room s slice) (wanted s row m)))

-- the list slice afterwards: unchanged on refusals 1 to 8; else "packed in dictionary order from its start, and its
-- bytes beyond them are as at entry", on refusal 9 "as many of the first consistent rows as fit, in order; the rest
-- unchanged"
unfoldable pub list_slice : (s row : List ℕ) (m : ℕ) (slice : List ℕ) → List ℕ
unfolding input_checks first_refusal written_rows
list_slice s row m slice =
    cond (eqb (first_refusal (input_checks s row m)) 0)
    (written_rows s row m (length slice) ++ drop (length (written_rows s row m (length slice))) slice)
    slice
