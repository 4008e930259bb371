-- The loop's invariant: the row in hand stays one, and block i is read from a place that is not behind its own.
use Rattle.std.proofs.Common.{◌*◌, ◌≤◌}
use Rattle.message.specs.Layout.{block_bits}
use Rattle.hint.specs.Tries.{Hand}
use Rattle.hint.proofs.as_read.Given as goal

abbrev pub invariant-loop-i : goal.invariant-loop-i
invariant-loop-i l = record {
  hand : Hand l.l l.x;
  before : l.p ≤ l.i * block_bits l.l;
  on : l.initial.p ≤ l.p;
}
