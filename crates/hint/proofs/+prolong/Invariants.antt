-- The measure of the recursion is the number of losses left, that of the loop the fuel. The loop's invariant: the row in
-- hand stays one, no fuel is gained, and the try is fit.
use Rattle.std.proofs.Common.{◌<◌, ◌≤◌}
use Rattle.hint.specs.Tries.{Fit, Hand}
use Rattle.hint.proofs.+prolong.Given as goal

abbrev pub decreases-prolong : goal.decreases-prolong
decreases-prolong l = l.left

abbrev pub invariant-loop-t : goal.invariant-loop-t
invariant-loop-t l = record {
  hand : Hand l.l l.x;
  less : l.f ≤ l.fuel;
  fit : Fit l.y l.t;
  some : 0 < l.t.e;
}

abbrev pub decreases-loop-t : goal.decreases-loop-t
decreases-loop-t l = l.f
