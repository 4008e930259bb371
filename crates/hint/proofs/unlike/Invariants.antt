-- The loop's invariant: no more bits are unlike than were passed.
use Rattle.std.proofs.Common.{◌+◌, ◌≤◌, length}
use Rattle.hint.proofs.unlike.Given as goal

abbrev pub invariant-loop-i : goal.invariant-loop-i
invariant-loop-i l = record { passed : l.unlike + l.k ≤ l.i; within : l.unlike ≤ length l.y }
