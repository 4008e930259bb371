-- The loop's invariant: the powers of the first exponents are summed.
use Rattle.std.proofs.Common.{◌≡◌, get_or}
use Rattle.field.specs.Exponents.{sum_to}
use Rattle.field.specs.Field.{power}
use Rattle.field.proofs.sum.Given as goal

abbrev pub invariant-loop-e : goal.invariant-loop-e
invariant-loop-e l = l.s ≡ sum_to l.e-index (λ k. power l.nc (get_or l.es k 0))
