-- The loop's invariant: what the chunk brings with each number of losses passed is held.
use Rattle.std.proofs.Common.{ℕ, ◌+◌, ◌<◌, get_or}
use Rattle.rests.specs.Rests.{Brings}
use Rattle.rests.proofs.with_chunks.Given as goal

abbrev pub invariant-loop-next : goal.invariant-loop-next
invariant-loop-next l =
    (k : ℕ) → k < l.next → Brings l.l l.y l.block l.end l.c l.left k (get_or l.rests (l.at + k) 0) l.r
