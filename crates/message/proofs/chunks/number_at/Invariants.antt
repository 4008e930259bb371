-- The loop's invariant: the bits read so far, and those to come, spell the number.
use Rattle.std.proofs.Common.{◌≡◌, ◌+◌, ◌-◌, ◌*◌, ◌^◌, ◌<◌, drop}
use Rattle.bits.specs.Bits.{number}
use Rattle.message.proofs.chunks.number_at.Given as goal

abbrev pub invariant-loop-b : goal.invariant-loop-b
invariant-loop-b l = record {
  below : l.v < 2 ^ l.b-index;
  spelled : l.v * 2 ^ (l.k - l.b-index) + number (l.k - l.b-index) (drop (l.at + l.b-index) l.bits)
      ≡ number l.k (drop l.at l.bits);
}
