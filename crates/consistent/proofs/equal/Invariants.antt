-- The loop's invariant: whether the two are equal is up to what is left of them.
use Rattle.std.proofs.Common.{◌≡◌, length}
use Rattle.bits.specs.Bits.{same}
use Rattle.consistent.proofs.equal.Given as goal

abbrev pub invariant-loop-value : goal.invariant-loop-value
invariant-loop-value l = record {
  as_long : length l.value-iterator.a.rest.now ≡ length l.value-iterator.b.rest.now;
  left : same l.value-iterator.a.rest.now l.value-iterator.b.rest.now ≡ same l.values l.numbers;
}
