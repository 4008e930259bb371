-- What the program rowlist prints for its input (document 01, "Marked rows").
use Rattle.std.specs.Prelude.{ℕ, cond, List, map, eqb}
use Rattle.bits.specs.Bits.{pack}
use Rattle.consistent.specs.List.{wanted, list_refusal}
use Rattle.rowtext.specs.Input.{message_in, bits_in, row_in}
use Rattle.rowtext.specs.Text.{count_text, refused_text}

-- "its list slice has 4,096 bytes"
abbrev pub list_bytes : ℕ
list_bytes = 4096

-- the longest text: a header of 12 characters, and for 4,096 rows of a byte each the two digits and the line feed
abbrev pub longest_text : ℕ
longest_text = 12300

-- the count and the rows for the message, the bit count and the row that stand in the input, or the refusal
unfoldable pub printed : List ℕ → List ℕ
unfolding list_refusal wanted pack message_in bits_in row_in count_text refused_text
printed s =
    let q = list_refusal (message_in s) (row_in s) (bits_in s) list_bytes in
    cond (eqb q 0) (count_text (map pack (wanted (message_in s) (row_in s) (bits_in s)))) (refused_text q)
