-- What `live::put_column` keeps in its loop: the marks of the states passed are set.
use Rattle.std.proofs.Common.{◌≡◌, ℕ, ◌+◌, ◌<◌, ◌≤◌, get_or}
use Rattle.marks.specs.Marks.{Remade}
use Rattle.live.proofs.put_column.Given as goal

abbrev pub invariant-loop-p : goal.invariant-loop-p
invariant-loop-p l = record {
  column : Remade l.states l.at l.initial.marks l.marks;
  highest : (t : ℕ) → t < l.p → get_or l.marks (l.at + t) 0 ≤ l.highest;
  put : (t : ℕ) → t < l.p → get_or l.floors t 0 < get_or l.fresh t 0
      → get_or l.marks (l.at + t) 0 ≡ get_or l.fresh t 0;
}
