-- The loop's invariant: the entries of the steps passed cover every walk.
use Rattle.std.proofs.Common.{◌≡◌, ℕ, ◌+◌, ◌<◌, ◌≤◌, get_or}
use Rattle.far.specs.Far.{step_at, Covered}
use Rattle.far.proofs.sweep.Given as goal

abbrev pub invariant-loop-t : goal.invariant-loop-t
invariant-loop-t l = record {
  before : (i : ℕ) → i < l.at → get_or l.table i 0 ≡ get_or l.fn.table i 0;
  low : (w : ℕ) → w ≤ l.size → get_or l.table (step_at l.at l.t + w) 0 ≤ l.t;
  covered : Covered l.l l.y l.heavy l.z l.s l.size l.ahead l.at l.t l.table;
}
