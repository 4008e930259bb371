-- What `costs::repairs` keeps in its loop: a chunk that brings the column to its sum has at least g ones more than were
-- received.
use Rattle.std.proofs.Common.{ℕ, ◌+◌, ◌≤◌}
use Rattle.bits.specs.Bits.{digits}
use Rattle.vt.specs.Ones.{ones}
use Rattle.costs.specs.Costs.{Repairs}
use Rattle.costs.proofs.repairs.Given as goal

abbrev pub invariant-loop-g : goal.invariant-loop-g
invariant-loop-g l =
    (v part : ℕ) → Repairs l.l l.y l.block l.end l.j l.left l.sum l.set v part → l.seen.ones + l.g ≤ ones (digits l.nc v)
