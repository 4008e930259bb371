-- The loop's invariant: what is found so far and what is left add up to the whole.
use Rattle.std.proofs.Common.{◌≡◌, ◌+◌, ◌*◌, ◌≤◌, drop}
use Rattle.bits.specs.Bits.{unpack}
use Rattle.vt.specs.Ones.{ones as onesOf}
use Rattle.vt.specs.Sum.{total as total_of}
use Rattle.vt.proofs.weigh_bytes.Given as goal

abbrev pub invariant-loop-i : goal.invariant-loop-i
invariant-loop-i l = record {
  total_few : l.total ≤ 20000 * l.i;
  ones_few : l.ones ≤ 8 * l.i;
  total_left : l.total + total_of (1 + l.i * 8) (drop (l.i * 8) (unpack l.s)) ≡ total_of 1 (unpack l.s);
  ones_left : l.ones + onesOf (drop (l.i * 8) (unpack l.s)) ≡ onesOf (unpack l.s);
}
