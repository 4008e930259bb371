-- The loop's invariant: of the heavy blocks passed, fewer chunks are others than in z than are counted.
use Rattle.std.proofs.Common.{List, ℕ, ◌+◌, ◌<◌, ◌≤◌}
use Rattle.column.specs.Column.{AsRead, apart_in}
use Rattle.column.proofs.others.Given as goal

abbrev pub invariant-loop-s : goal.invariant-loop-s
invariant-loop-s l = record {
  small : l.r ≤ l.s + 1;
  counted : (vs : List ℕ) → AsRead l.l l.y l.heavy l.chunks vs l.j l.s → apart_in l.l l.heavy l.z vs l.j l.s < l.r;
}
