-- Entries that are set one after the other: what is to hold of each holds of those passed. Assumes nothing.
use Prim.Native.Nat.{ℕ, ◌+◌, ◌<◌}
use mathlib.Core.Path.{◌≡◌}
use mathlib.Core.List.{List}
use native.Mathlib.Decide.{ℕ_discrete}
use native.Mathlib.Omega.{arith}
use lib.ListN.{length, get_or, set}
use lib.Seq.{get_or-set_same, get_or-set_other}

pub one_more : (P : ℕ → ℕ → Type 0) (xs : List ℕ) (i v : ℕ) → i < length xs → ((k : ℕ) → k < i → P k (get_or xs k 0))
    → P i v
    → (k : ℕ) → k < i + 1 → P k (get_or (set xs i v) k 0)
one_more P xs i v h before here k l = go (ℕ_discrete k i)
  where
    go : Dec (k ≡ i) → P k (get_or (set xs i v) k 0)
    go (yes e) = rw (e, get_or-set_same xs i v 0 h) here
    go (no e) = rw (get_or-set_other xs i k v 0 e) (before k (omega arith))
