-- The loop's invariant: r ones are left, and from here on a bit that adds t has a place.
use Rattle.std.proofs.Common.{◌≡◌, ◌+◌, ◌≤◌, length, drop}
use Rattle.vt.specs.Ones.{ones}
use Rattle.vt.specs.Places.{Reach}
use Rattle.vt.proofs.find_place.Given as goal

abbrev pub invariant-loop-j : goal.invariant-loop-j
invariant-loop-j l = record {
  few : l.r ≤ length l.bits + l.behind;
  left : l.r ≡ ones (drop l.j l.bits) + l.behind;
  reach : Reach (l.before + l.j + 1) l.t l.r (l.before + length l.bits + 1 + l.behind);
}
