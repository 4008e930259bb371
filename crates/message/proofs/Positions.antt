-- The total of the positions of the ones: of a string in parts, from a bit on, and how high it and the sum are. Assumes
-- nothing.
use Prim.Native.Nat.{ℕ, suc, ◌+◌, ◌*◌, ◌≤◌}
use mathlib.Core.Path.{◌≡◌}
use mathlib.Core.List.{List, [], ◌∷◌, ◌++◌}
use native.Mathlib.Nat.{suc-mul, mod-lt}
use native.Mathlib.Omega.{arith}
use lib.ListN.{length}
use Rattle.bits.specs.Bits.{AllBits}
use Rattle.vt.specs.Sum.{total, sum}
use Rattle.vt.proofs.Totals.{times_bit}
use Rattle.vt.proofs.Weighing.{total-append as joined-total}

pub total-append : (i : ℕ) (x y : List ℕ) → total i (x ++ y) ≡ total i x + total (i + length x) y
total-append = joined-total

pub total-high : (i : ℕ) (x : List ℕ) → AllBits x → total i x ≤ length x * (i + length x)
unfolding total
total-high i [] a = omega arith
total-high i (b ∷ x) a =
    let e : suc i + length x ≡ i + suc (length x) = omega arith in
    let h = rw e at (total-high (suc i) x a.1) in
    omega (arith, h, times_bit i b a.0, suc-mul (length x) (i + suc (length x)))

-- a sum is at most the length of its string
pub sum-high : (x : List ℕ) → sum x ≤ length x
unfolding sum
sum-high x = omega (arith, mod-lt (total 1 x) {m = length x + 1} (omega arith))
