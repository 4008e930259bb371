-- The measure is the number of chunks left. The loop's invariant: contents that bring what is needed have at least g ones
-- more than were received in chunk s.
use Rattle.std.proofs.Common.{◌≡◌, ℕ, ◌+◌, ◌-◌, ◌%◌, ◌≤◌}
use Rattle.bits.specs.Bits.{digits}
use Rattle.vt.specs.Ones.{ones}
use Rattle.weigh.specs.Weigh.{Can, brought, Within}
use Rattle.weigh.proofs.+brings.Given as goal

abbrev pub decreases-brings : goal.decreases-brings
decreases-brings l = l.chunks.n - l.s

abbrev pub invariant-loop-g : goal.invariant-loop-g
invariant-loop-g l =
    (vs : ℕ → ℕ) → Can l.nc l.y l.chunks vs → Within l.nc l.chunks vs l.s l.span
    → brought l.nc l.chunks.block vs l.chunks.n % l.modulus ≡ l.need → l.seen.ones + l.g ≤ ones (digits l.nc (vs l.s))
