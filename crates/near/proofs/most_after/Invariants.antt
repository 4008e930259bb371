-- The loop's invariant: the blocks passed are summed up.
use Rattle.std.proofs.Common.{◌≡◌, ◌*◌, ◌≤◌}
use Rattle.states.specs.States.{each}
use Rattle.near.specs.Near.{most_after}
use Rattle.near.proofs.most_after.Given as goal

abbrev pub invariant-loop-s : goal.invariant-loop-s
invariant-loop-s l = record {
  low : l.most ≤ l.s * 255;
  added : l.most ≡ most_after l.columns l.after (each l.fn.left) l.j l.s;
}
