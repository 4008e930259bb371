-- The table of the powers of 2, and the logs that are filled from it.
use Rattle.std.specs.Prelude.{ℕ, zero, suc, ◌+◌, ◌-◌, ◌^◌, ◌<◌, ◌≤◌, ◌≡◌, List, [], ◌∷◌, ◌++◌, length, get_or, set}
use Rattle.field.specs.Field.{Element, double, power}

-- k numbers from x on, each the double of the one before it
unfoldable pub doubles : (nc x k : ℕ) → List ℕ
unfolding double
doubles nc x zero = []
doubles nc x (suc k) = x ∷ doubles nc (double nc x) k

-- the powers of 2 of k fields one after another, from field nc on: 2 ^ nc - 1 of each
unfoldable pub runs : (nc k : ℕ) → List ℕ
unfolding doubles
runs nc zero = []
runs nc (suc k) = doubles nc 1 (2 ^ nc - 1) ++ runs (suc nc) k

-- "one constant table lists the powers of 2 of all six fields, 498 entries"
unfoldable pub powers : List ℕ
unfolding runs
powers = runs 3 6

-- where the powers of field nc + k start among them
unfoldable pub start : (nc k : ℕ) → ℕ
start nc zero = 0
start nc (suc k) = 2 ^ nc - 1 + start (suc nc) k

-- the list with each exponent below k written at the place that its power names
unfoldable pub with_logs : (nc k : ℕ) → List ℕ → List ℕ
unfolding power
with_logs nc zero xs = xs
with_logs nc (suc e) xs = set (with_logs nc e xs) (power nc e) e

-- a list of logs: at the place of each element but 0 stands its exponent, the one below 2 ^ nc - 1 whose power it is
pub record Logs (nc : ℕ) (logs : List ℕ) : Type 0 where
  pub long : 2 ^ nc ≤ length logs
  pub low : (x : ℕ) → 0 < x → Element nc x → get_or logs x 0 + 1 < 2 ^ nc
  pub log : (x : ℕ) → 0 < x → Element nc x → power nc (get_or logs x 0) ≡ x
