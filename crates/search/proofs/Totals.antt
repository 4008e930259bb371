-- Totals of counts of a pattern beside those of the anchor's laws. Assumes nothing.
use Prim.Native.Nat.{ℕ, zero, suc, ◌+◌, ◌≤◌}
use mathlib.Core.List.{List, [], ◌∷◌}
use native.Mathlib.Omega.{arith}
use lib.ListN.{set}
use Rattle.consistent.specs.Greedy.{in_all}

-- a count that is set adds at most itself
pub total-set : (counts : List ℕ) (i a : ℕ) → in_all (set counts i a) ≤ in_all counts + a
unfolding in_all
total-set [] i a = omega arith
total-set (b ∷ counts) zero a = omega arith
total-set (b ∷ counts) (suc i) a = omega (arith, total-set counts i a)
