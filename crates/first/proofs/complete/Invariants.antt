-- What `first::complete` keeps in its loop: from column j on the states along every row are marked.
use Rattle.std.proofs.Common.{ℕ, ◌<◌, ◌≤◌, List, get_or}
use Rattle.states.specs.States.{each}
use Rattle.column.specs.Column.{Light}
use Rattle.marks.specs.Marks.{Path, mark_at}
use Rattle.near.specs.Near.{most}
use Rattle.first.proofs.complete.Given as goal

abbrev pub invariant-loop-j : goal.invariant-loop-j
invariant-loop-j l =
    (row vs : List ℕ) (own : ℕ → ℕ → ℕ) → Light l.l l.heavy row l.known
    → Path l.l l.y l.numbers l.heavy row (each l.shape.size) vs own
    → ((i : ℕ) → i ≤ l.l.l2 → l.room ≤ most l.l.l2 l.before l.after (each l.shape.size) (own i) i l.shape.n)
    → (i : ℕ) → l.j ≤ i → i ≤ l.l.l2 → 0 < get_or l.marks (mark_at l.shape i (own i)) 0
