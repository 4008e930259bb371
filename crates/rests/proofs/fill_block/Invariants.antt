-- The loop's invariant: the entries passed are filled, and all others stay.
use Rattle.rests.specs.Rests.{Filled}
use Rattle.rests.proofs.fill_block.Given as goal

abbrev pub invariant-loop-left : goal.invariant-loop-left
invariant-loop-left l = Filled l.l l.y l.block l.end l.c l.s l.left l.initial.rests l.rests
