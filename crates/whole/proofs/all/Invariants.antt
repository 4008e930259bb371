-- The loop's invariant: the blocks passed are summed up.
use Rattle.std.proofs.Common.{◌≡◌, ◌*◌, ◌≤◌}
use Rattle.states.specs.States.{each, added_up}
use Rattle.whole.specs.Whole.{unread}
use Rattle.whole.proofs.all.Given as goal

abbrev pub invariant-loop-s : goal.invariant-loop-s
invariant-loop-s l = record {
  low : l.sum ≤ l.s * unread;
  added : l.sum ≡ added_up l.table (each l.fn.left) l.s;
}
