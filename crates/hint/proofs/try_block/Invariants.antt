-- The loop's invariant: the row in hand stays one of bits, and its total small.
use Rattle.std.proofs.Common.{◌*◌, ◌≤◌}
use Rattle.bits.specs.Bits.{AllBits}
use Rattle.hint.proofs.try_block.Given as goal

abbrev pub invariant-loop-u : goal.invariant-loop-u
invariant-loop-u l = record {
  bits : AllBits l.x;
  small : l.total ≤ l.u * 2048;
}
