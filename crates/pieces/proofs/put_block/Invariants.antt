-- The loop's invariant: the row is what it was, with the first j numbers pasted in.
use Rattle.std.proofs.Common.{◌≡◌, ◌*◌}
use lib.Seq.{paste}
use Rattle.message.specs.Read.{fields}
use Rattle.pieces.proofs.put_block.Given as goal

abbrev pub invariant-loop-j : goal.invariant-loop-j
invariant-loop-j l = l.row ≡ paste l.initial.row (l.i * l.l2) (fields l.l2 l.nc l.bits) l.j
