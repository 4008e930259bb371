-- The loop's invariant: the sums of the blocks passed stand at the numbers of their states.
use Rattle.states.proofs.Sums.{Sums}
use Rattle.states.proofs.add_up.Given as goal

abbrev pub invariant-loop-s : goal.invariant-loop-s
invariant-loop-s l = Sums l.shape l.values l.s l.sums
