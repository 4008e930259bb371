-- The loop's invariant: the row in hand stays one of bits.
use Rattle.bits.specs.Bits.{AllBits}
use Rattle.hint.proofs.repeat_at.Given as goal

abbrev pub invariant-loop-j : goal.invariant-loop-j
invariant-loop-j l = AllBits l.x
