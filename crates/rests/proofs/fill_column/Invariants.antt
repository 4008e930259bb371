-- The loop's invariant: the entries of the blocks passed are filled.
use Rattle.rests.specs.Rests.{FilledColumn}
use Rattle.rests.proofs.fill_column.Given as goal

abbrev pub invariant-loop-s : goal.invariant-loop-s
invariant-loop-s l = FilledColumn l.l l.y l.fn.heavy l.fn.size l.c l.s l.initial.rests l.rests
