-- What `alike::can_differ` keeps in its loop: no row crosses the column without a loss where its chunk of a block that is
-- passed is another than in z.
use Rattle.std.proofs.Common.{◌≡◌, ℕ, ◌<◌, ◌≤◌, List}
use Rattle.states.specs.States.{each}
use Rattle.column.specs.Column.{Light, Crosses}
use Rattle.far.specs.Far.{read_apart}
use Rattle.alike.proofs.can_differ.Given as goal

abbrev pub invariant-loop-s : goal.invariant-loop-s
invariant-loop-s l =
    (row vs : List ℕ) (left next : ℕ → ℕ) → Light l.l l.heavy row l.known
    → ((t : ℕ) → t < l.heavy.n → left t ≤ each l.size t)
    → Crosses l.l l.y l.numbers l.heavy row l.j left next vs → ((t : ℕ) → t < l.heavy.n → next t ≡ left t)
    → (t : ℕ) → t < l.s → 0 < read_apart l.l l.y l.heavy l.z t l.j (left t) → ⊥
