-- The loop's invariant: each number passed is what 2 ^ nc leaves of it.
use Rattle.std.proofs.Common.{◌≡◌, ℕ, ◌%◌, ◌^◌, ◌<◌, get_or}
use Rattle.recover.proofs.reduce.Given as goal

abbrev pub invariant-loop-c : goal.invariant-loop-c
invariant-loop-c l = (k : ℕ) → k < l.c → get_or l.out k 0 ≡ get_or l.row k 0 % 2 ^ l.nc
