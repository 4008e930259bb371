-- The loop's invariant: the places are those of the cells passed.
use Rattle.recover.specs.Recover.{Collected}
use Rattle.recover.proofs.collect.Given as goal

abbrev pub invariant-loop-z : goal.invariant-loop-z
invariant-loop-z l = Collected l.l l.cells l.z l.e.n l.e.places
