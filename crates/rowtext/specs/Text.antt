-- The lines that the program rowlist prints (document 01, "Marked rows"), as ASCII: "the header is the word count and
-- the number of rows; each later line is one row in capital hexadecimal. A refusal prints one line, `refused` and its
-- number".
use Rattle.std.specs.Prelude.{ℕ, zero, suc, ◌+◌, ◌/◌, ◌%◌, ◌≡◌, cond, ltb, length, take, drop}
use mathlib.Core.List.{List, [], ◌∷◌, ◌++◌, flat_map}

-- a hexadecimal digit: 0 to 9, then A to F
abbrev pub hex_digit : ℕ → ℕ
hex_digit d = cond (ltb d 10) (48 + d) (55 + d)

-- a byte in capital hexadecimal
abbrev pub hex_byte : ℕ → List ℕ
hex_byte b = hex_digit (b / 16) ∷ hex_digit (b % 16) ∷ []

-- each line ends in a line feed
abbrev pub line_feed : List ℕ
line_feed = 10 ∷ []

-- a row's line
unfoldable pub row_line : List ℕ → List ℕ
unfolding flat_map
row_line row = flat_map hex_byte row ++ line_feed

-- the decimal digits of n, at most f of them
unfoldable pub last_digits : (f n : ℕ) → List ℕ
last_digits zero n = []
last_digits (suc f) n = cond (ltb n 10) ((48 + n) ∷ []) (last_digits f (n / 10) ++ ((48 + n % 10) ∷ []))

-- a number in decimal: it has no more digits than it has ones to count, and 0 has one
unfoldable pub decimal : ℕ → List ℕ
unfolding last_digits
decimal n = last_digits (suc n) n

-- "count" and a space
abbrev pub count_word : List ℕ
count_word = 99 ∷ 111 ∷ 117 ∷ 110 ∷ 116 ∷ 32 ∷ []

-- "refused" and a space
abbrev pub refused_word : List ℕ
refused_word = 114 ∷ 101 ∷ 102 ∷ 117 ∷ 115 ∷ 101 ∷ 100 ∷ 32 ∷ []

-- what is printed for a list of packed rows
unfoldable pub count_text : List (List ℕ) → List ℕ
unfolding decimal row_line flat_map
count_text rows = count_word ++ decimal (length rows) ++ line_feed ++ flat_map row_line rows

-- and for a refusal
unfoldable pub refused_text : ℕ → List ℕ
unfolding decimal
refused_text number = refused_word ++ decimal number ++ line_feed

-- a text was put into a slice from a place on; next is the place after it
pub record Put (text : List ℕ) (at : ℕ) (entry exit : List ℕ) (next : ℕ) : Type 0 where
  pub slice : exit ≡ take at entry ++ text ++ drop (at + length text) entry
  pub after : next ≡ at + length text
