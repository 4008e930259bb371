-- What stands in the input of the program rowlist (document 01, "Marked rows"): "message length (2 bytes, high first),
-- message, m (2 bytes, high first), and the remaining bytes as the row".
use Rattle.std.specs.Prelude.{ℕ, ◌+◌, ◌-◌, ◌*◌, ◌≤◌, ◌≡◌, cond, List, ltb, length, get_or, take, drop}

-- the number in the first two bytes, high first: "a length with fewer than two bytes present is 0"
unfoldable pub length_at : List ℕ → ℕ
length_at s = cond (ltb (length s) 2) 0 (get_or s 0 0 * 256 + get_or s 1 0)

-- the message: "missing bytes shorten their part"
unfoldable pub message_in : List ℕ → List ℕ
unfolding length_at
message_in s = take (length_at s) (drop 2 s)

-- what follows the message
unfoldable pub after_message : List ℕ → List ℕ
unfolding length_at
after_message s = drop (2 + length_at s) s

-- m, the number of bits
unfoldable pub bits_in : List ℕ → ℕ
unfolding length_at after_message
bits_in s = length_at (after_message s)

-- the row: "the remaining bytes"
unfoldable pub row_in : List ℕ → List ℕ
unfolding after_message
row_in s = drop 2 (after_message s)

-- where the parts stand in the input s: the message from one place up to another, and the row from a place on
pub record Split (s : List ℕ) (from to m row : ℕ) : Type 0 where
  pub ordered : from ≤ to
  pub ends : to ≤ length s
  pub begins : row ≤ length s
  pub message : take (to - from) (drop from s) ≡ message_in s
  pub bits : m ≡ bits_in s
  pub rest : drop row s ≡ row_in s
