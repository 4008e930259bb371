-- The loop's invariant: the count is that of all chunks from block i on, and the entries from entry i on are written.
use Rattle.std.proofs.Common.{◌≡◌, ◌+◌, ◌-◌, ◌*◌, ◌≤◌, length}
use Rattle.bits.specs.Bits.{most_in_line}
use Rattle.anchor.specs.Anchor.{over, wide}
use Rattle.anchor.proofs.Desk.{Sums}
use Rattle.anchor.proofs.later.Given as goal

abbrev pub invariant-loop-i : goal.invariant-loop-i
invariant-loop-i l = record {
  size : length l.out ≡ most_in_line + 1;
  at_most : l.count ≤ (l.l.l1 - l.i) * l.l.l2;
  counted : l.count ≡ over (wide l.desk l.d (l.k - l.d)) (l.i * l.l.l2) ((l.l.l1 - l.i) * l.l.l2);
  written : Sums (wide l.desk l.d (l.k - l.d)) l.l.l1 l.l.l2 l.i l.out;
}
