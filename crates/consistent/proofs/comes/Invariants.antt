-- The loop's invariant: what the pieces that are left leave of the rest of y is what x leaves of y.
use Rattle.std.proofs.Common.{◌≡◌, ◌≤◌, length, drop}
use Rattle.consistent.specs.Greedy.{eat}
use Rattle.consistent.proofs.comes.Given as goal

abbrev pub invariant-loop-piece : goal.invariant-loop-piece
invariant-loop-piece l = record {
  within : l.at ≤ length l.y;
  left : eat l.piece-iterator.rest.now (drop l.at l.y) ≡ eat l.x l.y;
}
