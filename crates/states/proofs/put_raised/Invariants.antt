-- The loop's invariant: the entries passed are put at the place.
use Rattle.states.specs.States.{Raised}
use Rattle.states.proofs.put_raised.Given as goal

abbrev pub invariant-loop-p : goal.invariant-loop-p
invariant-loop-p l = Raised l.to l.p l.v l.initial.sums l.sums
