-- The loop's invariant: a row that loses d bits before the block and a in it is above the row `last`, or has its bits up
-- to bit u of the block and as many losses left as the least block.
use Rattle.std.proofs.Common.{◌≡◌, ℕ, List, ◌+◌, ◌≤◌}
use Rattle.bits.specs.Bits.{unpack}
use Rattle.floor.proofs.Floor.{Under, Stands}
use Rattle.floor.proofs.heavy_block.Given as goal

abbrev pub invariant-loop-u : goal.invariant-loop-u
invariant-loop-u l = record {
  few : l.left ≤ l.a;
  place : l.p + (l.d + l.a) ≡ l.from + l.u + l.left;
  stands : (x : List ℕ) → Under l.y (unpack l.last) l.from l.nb l.d l.a x
      → Stands l.y (unpack l.last) x (l.from + l.u) l.left (l.d + l.a);
}
