-- The loop's invariant: the place of x lies from `low` to `high`.
use Rattle.std.proofs.Common.{◌-◌, ◌≤◌, length}
use Rattle.bits.specs.Bits.{cut}
use Rattle.rows.specs.Slice.{place}
use Rattle.rows.proofs.place.Given as goal

abbrev pub invariant-loop-low : goal.invariant-loop-low
invariant-loop-low l = record {
  above : l.low ≤ place l.x (cut l.count (length l.x) l.list);
  below : place l.x (cut l.count (length l.x) l.list) ≤ l.high;
  inside : l.high ≤ l.count;
}

abbrev pub decreases-loop-low : goal.decreases-loop-low
decreases-loop-low l = l.high - l.low
