-- The loop's invariant: the first k exponents are raised, and the others are as they were.
use Rattle.std.proofs.Common.{ℕ, ◌≡◌, ◌<◌, ◌≤◌, get_or}
use Rattle.field.specs.Exponents.{Exponents}
use Rattle.field.specs.Field.{power, times}
use Rattle.field.proofs.raise_all.Given as goal

abbrev pub invariant-loop-k : goal.invariant-loop-k
invariant-loop-k l = record {
  exponents : Exponents l.nc l.es;
  raised : (j : ℕ) → j < l.k
      → power l.nc (get_or l.es j 0)
      ≡ times l.nc (power l.nc (get_or l.cs j 0)) (power l.nc (get_or l.initial.es j 0));
  others : (j : ℕ) → l.k ≤ j → get_or l.es j 0 ≡ get_or l.initial.es j 0;
}
