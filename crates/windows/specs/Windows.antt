-- Tables from which the sum of any window of a string is had in constant time: what stands before each place.
use Rattle.std.specs.Prelude.{ℕ, ◌+◌, ◌<◌, ◌≤◌, ◌≡◌, List, length, get_or, take}
use Rattle.vt.specs.Ones.{ones}
use Rattle.vt.specs.Sum.{total}

-- the tables of a string that starts at place p of a longer one: for each place of it how much higher than at its start
-- are the total of the positions of the ones before it, counted in the longer string, and their number
pub record Tables (y : List ℕ) (p : ℕ) (totals counts : List ℕ) : Type 0 where
  pub totals_long : length y < length totals
  pub counts-long : length y < length counts
  pub total-at : (j : ℕ) → j ≤ length y → get_or totals j 0 ≡ get_or totals 0 0 + total (p + 1) (take j y)
  pub count_at : (j : ℕ) → j ≤ length y → get_or counts j 0 ≡ get_or counts 0 0 + ones (take j y)
