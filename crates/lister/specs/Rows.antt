-- The parts of listing, by what the head of the message and the slice give them: what is checked of the received row,
-- how many rows fit, and what is answered and written for a list of rows.
use Rattle.std.specs.Prelude.{ℕ, ◌-◌, ◌/◌, min, not, cond, ◌||◌, List, [], ◌∷◌, ◌++◌, map, ltb, length, take, drop}
use Rattle.refusal.specs.Refusal.{first_refusal}
use Rattle.bits.specs.Bits.{bytes_for, pack, fits}
use Rattle.rows.specs.Slice.{flat}
use Rattle.consistent.specs.Consistent.{most_losses}
use Rattle.consistent.specs.List.{ListAnswer, used_bytes}

-- what a received row of m bits is refused for where n were sent, by rows 7 and 8 of the table; 0 where it is fit
unfoldable pub row_refusal : (n : ℕ) (row : List ℕ) (m : ℕ) → ℕ
unfolding first_refusal fits
row_refusal n row m = first_refusal ((7, ltb n m || ltb most_losses (n - m)) ∷ (8, not (fits m row)) ∷ [])

-- how many rows of n bits fit whole in a list slice of so many bytes
abbrev pub room_for : (n slice : ℕ) → ℕ
room_for n slice = min slice used_bytes / bytes_for n

-- what is answered for a list of rows of which cap fit: their number, or refusal 9
abbrev pub rows_answer : (cap : ℕ) (rows : List (List ℕ)) → ListAnswer
rows_answer cap rows =
    cond (ltb cap (length rows)) (record { refusal = 9; count = 0 }) (record { refusal = 0; count = length rows })

-- the first cap rows, packed one after another
unfoldable pub first_rows : (cap : ℕ) (rows : List (List ℕ)) → List ℕ
unfolding pack flat
first_rows cap rows = flat (map pack (take cap rows))

-- the slice afterwards: these rows from its start, and beyond them the bytes as at entry
unfoldable pub rows_slice : (cap : ℕ) (rows : List (List ℕ)) (slice : List ℕ) → List ℕ
unfolding first_rows
rows_slice cap rows slice = first_rows cap rows ++ drop (length (first_rows cap rows)) slice
