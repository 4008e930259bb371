-- The loop's invariant: what is read so far, with the bits still to come, is the byte.
use Rattle.std.proofs.Common.{◌≡◌, ◌+◌, ◌-◌, ◌*◌, ◌^◌, ◌<◌, drop}
use Rattle.bits.specs.Bits.{number}
use Rattle.bits.proofs.last_byte.Given as goal

abbrev pub invariant-loop-j : goal.invariant-loop-j
invariant-loop-j l = record {
  low : l.v < 2 ^ l.j;
  same : l.v * 2 ^ (8 - l.j) + number (8 - l.j) (drop (l.at + l.j) l.bits) ≡ number 8 (drop l.at l.bits);
}
