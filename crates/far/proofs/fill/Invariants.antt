-- The loop's invariant: the tables of the blocks passed cover every walk.
use Rattle.std.proofs.Common.{ℕ, ◌<◌, get_or}
use Rattle.far.specs.Far.{Covered, block_at}
use Rattle.far.proofs.fill.Given as goal

abbrev pub invariant-loop-s : goal.invariant-loop-s
invariant-loop-s l =
    (k : ℕ) → k < l.s → Covered l.l l.y l.fn.heavy l.z k (get_or l.fn.size k 0) l.ahead (block_at l.l.l2 k) l.l.l2 l.table
