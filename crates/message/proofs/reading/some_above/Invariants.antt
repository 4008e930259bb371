-- The loop's invariant: the cursor stands at the next field, and whether a field is above the limit is up to those that are left.
use Rattle.std.proofs.Common.{◌≡◌, ◌+◌, ◌*◌, drop}
use Rattle.bits.specs.Bits.{unpack}
use Rattle.message.specs.Read.{fields, some_above}
use Rattle.message.proofs.reading.some_above.Given as goal

abbrev pub invariant-loop : goal.invariant-loop
invariant-loop l = record {
  at : l.c.at ≡ l.at + l.counter * l.k;
  left : some_above l.limit (drop l.counter (fields l.n l.k (drop l.at (unpack l.s))))
      ≡ some_above l.limit (fields l.n l.k (drop l.at (unpack l.s)));
}
