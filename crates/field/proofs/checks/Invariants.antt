-- The loop's invariant: the exponents are those of the terms of the check before check i, or of check 0, and the first i
-- checks are written.
use Rattle.std.proofs.Common.{◌-◌}
use Rattle.field.specs.Exponents.{Exponents}
use Rattle.field.specs.Field.{Checks}
use Rattle.field.proofs.Terms.{AreTerms}
use Rattle.field.proofs.checks.Given as goal

abbrev pub invariant-loop-i : goal.invariant-loop-i
invariant-loop-i l = record {
  exponents : Exponents l.nc l.es;
  terms : AreTerms l.nc l.n (l.i - 1) l.cs l.initial.es l.es;
  written : Checks l.nc l.i l.chunks l.check-items;
}
