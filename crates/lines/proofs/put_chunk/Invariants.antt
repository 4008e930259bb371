-- The loop's invariant: the first i digits are pasted in.
use Rattle.std.proofs.Common.{◌≡◌}
use Rattle.std.proofs.Math.Seq.{paste}
use Rattle.bits.specs.Bits.{digits}
use Rattle.lines.proofs.put_chunk.Given as goal

abbrev pub invariant-loop-i : goal.invariant-loop-i
invariant-loop-i l = l.out ≡ paste l.initial.out l.at (digits l.nc l.v) l.i
