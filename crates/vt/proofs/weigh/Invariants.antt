-- The loop's invariant: what is found so far and what is left add up to the whole.
use Rattle.std.proofs.Common.{◌≡◌, ◌+◌, ◌*◌, ◌≤◌, drop}
use Rattle.bits.specs.Bits.{longest}
use Rattle.vt.specs.Ones.{ones as onesOf}
use Rattle.vt.specs.Sum.{total as total_of}
use Rattle.vt.proofs.weigh.Given as goal

abbrev pub invariant-loop-i : goal.invariant-loop-i
invariant-loop-i l = record {
  total_few : l.total ≤ longest * l.i;
  ones_few : l.ones ≤ l.i;
  total_left : l.total + total_of (l.i + 1) (drop l.i l.bits) ≡ total_of 1 l.bits;
  ones_left : l.ones + onesOf (drop l.i l.bits) ≡ onesOf l.bits;
}
