-- The loop's invariant: the bytes from i on are moved.
use Rattle.std.proofs.Common.{◌≡◌, ◌≤◌}
use Rattle.rows.proofs.Slice.{Moved}
use Rattle.rows.proofs.move_bytes.Given as goal

abbrev pub invariant-loop-i : goal.invariant-loop-i
invariant-loop-i l = record { low : l.from ≤ l.i; moved : l.list ≡ Moved l.initial.list l.to l.w l.i }
