-- Totals of the first counts of a pattern. Assumes nothing.
use Prim.Native.Nat.{ℕ, zero, suc, ◌+◌, ◌<◌, ◌≤◌}
use mathlib.Core.Path.{◌≡◌}
use mathlib.Core.List.{List, [], ◌∷◌}
use native.Mathlib.Numerals.{add-one}
use native.Mathlib.Omega.{arith}
use lib.ListN.{length, get_or, take}
use Rattle.consistent.specs.Greedy.{in_all}

-- one count more
total_suc : (counts : List ℕ) (i : ℕ) → i < length counts
    → in_all (take (suc i) counts) ≡ in_all (take i counts) + get_or counts i 0
unfolding in_all
total_suc [] i h = absurd (omega arith)
total_suc (a ∷ counts) zero h = omega arith
total_suc (a ∷ counts) (suc i) h = omega (arith, total_suc counts i (omega arith))

pub total-next : (counts : List ℕ) (i : ℕ) → i < length counts
    → in_all (take (i + 1) counts) ≡ in_all (take i counts) + get_or counts i 0
total-next counts i h = rw (add-one i) (total_suc counts i h)

-- the total grows with the counts
pub total-grows : (counts : List ℕ) (i j : ℕ) → i ≤ j → in_all (take i counts) ≤ in_all (take j counts)
unfolding in_all
total-grows counts zero j h = omega arith
total-grows counts (suc i) zero h = absurd (omega arith)
total-grows [] (suc i) (suc j) h = omega arith
total-grows (a ∷ counts) (suc i) (suc j) h = omega (arith, total-grows counts i j (omega arith))

pub total-none : (counts : List ℕ) → in_all (take 0 counts) ≡ 0
unfolding in_all
total-none counts = omega arith
