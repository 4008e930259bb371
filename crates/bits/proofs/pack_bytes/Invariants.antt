-- The loop's invariant: the first i bytes stand at the start.
use Rattle.std.proofs.Common.{◌≡◌, ◌++◌, take, drop}
use Rattle.bits.specs.Bits.{bytes}
use Rattle.bits.proofs.pack_bytes.Given as goal

abbrev pub invariant-loop-i : goal.invariant-loop-i
invariant-loop-i l = l.b-items ≡ take l.i (bytes l.n l.bits) ++ drop l.i l.initial.b-items
