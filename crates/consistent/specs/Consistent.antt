-- Which rows are consistent with a message and a received row, and the list of them (document 01, "The list").
use Rattle.std.specs.Prelude.{ℕ, ◌-◌, Bool, ◌&&◌, List, ◌++◌, eqb, length}
use Rattle.bits.specs.Bits.{same}
use Rattle.rows.specs.Deletion.{comes_from}
use Rattle.rows.specs.Rows.{all_rows, keep}
use Rattle.message.specs.Layout.{row_bits}
use Rattle.message.specs.Message.{block_sums, string_sums, checks, message}
use Rattle.message.specs.declared.Layout.{Layout}
use Rattle.message.specs.Read.{layout_of}

-- "k = n − m were deleted, 0 to 12": the most bits that may be lost
abbrev pub most_losses : ℕ
most_losses = 12

-- n, the bits of a row under the layout named in the message
abbrev pub bits_of : List ℕ → ℕ
bits_of s = row_bits (layout_of s)

-- "a row yields a message, and the message is the row's own, if the row's message under the layout named there equals
-- it byte for byte"
unfoldable pub yields : (s x : List ℕ) → Bool
unfolding same message layout_of
yields s x = same (message (layout_of s) x) s

-- "a row X is consistent if it has n bits, the received row comes from X by deleting k bits, and X's message under the
-- layout equals the given one byte for byte": s is the message, y the received row of m bits, and k = n − m. The field
-- calls x a supersequence of y with the given syndromes.
unfoldable pub consistent : (s : List ℕ) (m : ℕ) (y x : List ℕ) → Bool
unfolding layout_of comes_from yields
consistent s m y x = eqb (length x) (bits_of s) && comes_from x (bits_of s - m) y && yields s x

-- "take all strings of n bits in dictionary order, from all zeros to all ones, and keep those that are consistent, in
-- that order"
unfoldable pub the_list : (s : List ℕ) (m : ℕ) (y : List ℕ) → List (List ℕ)
unfolding layout_of all_rows keep consistent
the_list s m y = keep (consistent s m y) (all_rows (bits_of s))

-- the same by the numbers that were read of the message: the received row comes from x by deleting bits, and x has
-- these block sums, chunk-string sums and checks
unfoldable pub candidate : Layout → (numbers y x : List ℕ) → Bool
unfolding comes_from same block_sums string_sums checks
candidate l numbers y x =
    comes_from x (length x - length y) y && same (block_sums l x ++ string_sums l x ++ checks l x) numbers
