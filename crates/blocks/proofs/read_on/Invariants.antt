-- The loop's invariant: the chunks passed are in the row as they are read.
use Rattle.std.proofs.Common.{◌≡◌, ℕ, ◌+◌, ◌-◌, ◌*◌, ◌<◌, ◌≤◌, get_or, drop}
use Rattle.bits.specs.Bits.{number}
use Rattle.blocks.proofs.read_on.Given as goal

abbrev pub invariant-loop-c : goal.invariant-loop-c
invariant-loop-c l = record {
  before : (d : ℕ) → d < l.j → get_or l.row (l.first + d) 0 ≡ get_or l.initial.row (l.first + d) 0;
  read : (d : ℕ) → d < l.c → l.j ≤ d
      → get_or l.row (l.first + d) 0 ≡ number l.nc (drop ((l.first + d) * l.nc - l.before) l.y);
}
