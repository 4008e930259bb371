-- The loop's invariant: the first c chunks are listed, or are 0.
use Rattle.field.specs.Exponents.{Terms}
use Rattle.field.proofs.fill_terms.Given as goal

abbrev pub invariant-loop-c : goal.invariant-loop-c
invariant-loop-c l = Terms l.nc l.n l.c l.xs l.cs l.es
