-- The loop's invariant: the bits of the first i bytes stand at the start.
use Rattle.std.proofs.Common.{◌≡◌, ◌*◌, ◌++◌, take, drop}
use Rattle.bits.specs.Bits.{unpack}
use Rattle.bits.proofs.unpack_bytes.Given as goal

abbrev pub invariant-loop-i : goal.invariant-loop-i
invariant-loop-i l = l.out ≡ take (l.i * 8) (unpack l.s) ++ drop (l.i * 8) l.initial.out
