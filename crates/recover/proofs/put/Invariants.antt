-- The loop's invariant: as many contents stand at their places as places have come.
use Rattle.std.proofs.Common.{◌≤◌, length}
use Rattle.recover.specs.Recover.{PutAt}
use Rattle.recover.proofs.put.Given as goal

abbrev pub invariant-loop-place : goal.invariant-loop-place
invariant-loop-place l = record {
  few : length l.yielded ≤ l.fn.e.n;
  there : PutAt (length l.yielded) l.fn.e.places l.fn.contents l.fn.row l.row;
}
