-- The loop's invariant: the numbers of losses passed are marked where the block can leave the column with them, and marks
-- stay.
use Rattle.rests.specs.Rests.{Marked}
use Rattle.rests.proofs.mark_block.Given as goal

abbrev pub invariant-loop-next : goal.invariant-loop-next
invariant-loop-next l = Marked l.l l.y l.block l.end l.c l.s l.left l.set l.rests l.initial.can l.next l.can
