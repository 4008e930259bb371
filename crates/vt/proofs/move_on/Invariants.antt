-- The loop's invariant: the bytes from the first one up to i are written.
use Rattle.std.proofs.Common.{◌≡◌, ◌-◌, ◌≤◌, ◌∷◌, drop}
use Rattle.std.proofs.Math.Seq.{paste}
use Rattle.bits.specs.Bits.{bytes, unpack}
use Rattle.vt.proofs.move_on.Given as goal

abbrev pub invariant-loop-i : goal.invariant-loop-i
invariant-loop-i l = record {
  inside : l.i ≤ l.count;
  written : l.out ≡ paste l.initial.out l.from (drop l.from (bytes l.count (0 ∷ unpack l.s))) (l.i - l.from);
}
