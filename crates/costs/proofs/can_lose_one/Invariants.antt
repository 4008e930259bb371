-- What `costs::can_lose_one` keeps in its loop: no row crosses the column with one loss in a block that is passed.
use Rattle.std.proofs.Common.{ℕ, ◌<◌, ◌≤◌, List}
use Rattle.states.specs.States.{each}
use Rattle.column.specs.Column.{Light, Crosses}
use Rattle.whole.specs.Whole.{OneLess}
use Rattle.costs.proofs.can_lose_one.Given as goal

abbrev pub invariant-loop-s : goal.invariant-loop-s
invariant-loop-s l =
    (row vs : List ℕ) (left next : ℕ → ℕ) → Light l.l l.heavy row l.known
    → ((t : ℕ) → t < l.heavy.n → left t ≤ each l.size t)
    → Crosses l.l l.y l.numbers l.heavy row l.j left next vs → (t : ℕ) → t < l.s → OneLess l.heavy.n left next t → ⊥
