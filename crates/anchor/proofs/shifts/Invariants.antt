-- The loop's invariant: the entries that are written hold, and so does the run, which is the last of them.
use Rattle.std.proofs.Common.{◌≡◌, ℕ, ◌+◌, ◌<◌, ◌≤◌, length}
use Rattle.anchor.specs.Anchor.{Reads}
use Rattle.anchor.proofs.Desk.{Runs}
use Rattle.anchor.proofs.shifts.Given as goal

abbrev pub invariant-loop-d : goal.invariant-loop-d
invariant-loop-d l = record {
  size : length l.out ≡ 13;
  short : l.run + l.d ≤ l.k;
  run : (t : ℕ) → l.d + 1 ≤ t → t < l.d + 1 + l.run → Reads l.nc l.y l.c l.v t;
  written : Runs l.nc l.y l.c l.v l.out;
}
