-- Which layouts, sums and checks a message can carry. The theorems on reading speak of these.
use Rattle.std.specs.Prelude.{ℕ, ◌^◌, ◌<◌, ◌≤◌, ◌≡◌, true, List, [], ◌∷◌, length}
use Rattle.message.specs.Layout.{legal, block_bits, string_bits}
use Rattle.message.specs.declared.Layout.{Layout}

-- every number of the list is at most w: "a sum above the length of its string" is refused
abbrev pub AtMost : ℕ → List ℕ → Type 0
AtMost w [] = Unit
AtMost w (v ∷ vs) = (v ≤ w) × AtMost w vs

-- every number of the list is below 2 ^ k, that is, it fits a field of k bits
abbrev pub FitAll : ℕ → List ℕ → Type 0
FitAll k [] = Unit
FitAll k (v ∷ vs) = (v < 2 ^ k) × FitAll k vs

-- a legal layout with as many sums and checks as it asks for, each in range
pub record Encodable (l : Layout) (block_sums string_sums checks : List ℕ) : Type 0 where
  pub is_legal : legal l ≡ true
  pub block_count : length block_sums ≡ l.l1
  pub string_count : length string_sums ≡ l.l2
  pub check-count : length checks ≡ l.r
  pub block_range : AtMost (block_bits l) block_sums
  pub string_range : AtMost (string_bits l) string_sums
  pub check_range : FitAll l.nc checks
