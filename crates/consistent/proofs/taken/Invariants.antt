-- The loop's invariant: what the rest of x leaves of the rest of y is what x leaves of y.
use Rattle.std.proofs.Common.{◌≡◌, ◌+◌, ◌≤◌, length, drop}
use Rattle.consistent.specs.Greedy.{eat, losses}
use Rattle.consistent.proofs.taken.Given as goal

abbrev pub invariant-loop-b : goal.invariant-loop-b
invariant-loop-b l = record {
  within : l.j ≤ length l.y;
  eaten : eat (drop l.b-index l.x) (drop l.j l.y) ≡ eat l.x l.y;
  lost : losses l.x l.y + l.j ≡ l.b-index + losses (drop l.b-index l.x) (drop l.j l.y);
}
