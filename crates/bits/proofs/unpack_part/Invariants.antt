-- The loop's invariant: the first i bits are pasted in.
use Rattle.std.proofs.Common.{◌≡◌, drop}
use Rattle.std.proofs.Math.Seq.{paste}
use Rattle.bits.specs.Bits.{unpack}
use Rattle.bits.proofs.unpack_part.Given as goal

abbrev pub invariant-loop-i : goal.invariant-loop-i
invariant-loop-i l = l.out ≡ paste l.initial.out l.from (drop l.from (unpack l.s)) l.i
