-- The loop's invariant: r ones are left from byte i on, and from there on a bit that adds t has a place.
use Rattle.std.proofs.Common.{◌≡◌, ◌+◌, ◌*◌, drop}
use Rattle.bits.specs.Bits.{unpack}
use Rattle.vt.specs.Ones.{ones}
use Rattle.vt.specs.Places.{Reach}
use Rattle.vt.proofs.find_part.Given as goal

abbrev pub invariant-loop-i : goal.invariant-loop-i
invariant-loop-i l = record {
  left : l.r ≡ ones (drop (l.i * 8) (unpack l.s));
  reach : Reach (l.i * 8 + 1) l.t l.r (l.n + 1);
}
