-- The loop's invariant: the slice starts with the numbers of the first i chunks.
use Rattle.std.proofs.Common.{◌≡◌, ◌++◌, ◌*◌, take, drop}
use Rattle.message.specs.Read.{fields}
use Rattle.message.proofs.chunks.fill_chunks.Given as goal

abbrev pub invariant-loop-i : goal.invariant-loop-i
invariant-loop-i l =
    l.out ≡ take l.i (fields (l.l1 * l.l2) l.nc l.row) ++ drop l.i l.fn.out
