-- The loop's invariant: the numbers of losses with which the blocks passed can leave the column are marked.
use Rattle.std.proofs.Common.{◌≡◌, length}
use Rattle.rests.proofs.Leaving.{Leaves}
use Rattle.rests.proofs.exits.Given as goal

abbrev pub invariant-loop-s : goal.invariant-loop-s
invariant-loop-s l = record {
  long : length l.can ≡ 78;
  leaves : Leaves l.l l.y l.fn.heavy l.c l.fn.left l.fn.sets l.rests l.s l.can;
}
