-- What `first::loses` keeps in its loop: no row loses its one bit in a block passed.
use Rattle.std.proofs.Common.{◌≡◌, ℕ, ◌+◌, ◌-◌, ◌<◌, ◌≤◌, List, get_or}
use Rattle.states.specs.States.{each, added_up}
use Rattle.column.specs.Column.{Light, Crosses}
use Rattle.whole.specs.Whole.{OneLess}
use Rattle.first.proofs.loses.Given as goal

abbrev pub invariant-loop-s : goal.invariant-loop-s
invariant-loop-s l =
    (t : ℕ) → t < l.s → (row vs known : List ℕ) (next : ℕ → ℕ) → Light l.l l.heavy row known
    → l.part ≡ get_or known l.j 0 + added_up l.readings (each l.left) l.heavy.n
    → Crosses l.l l.y l.numbers l.heavy row l.j (each l.left) next vs → OneLess l.heavy.n (each l.left) next t
    → get_or l.shape.stride t 0 ≤ l.q → 0 < get_or l.marks (l.base + (l.q - get_or l.shape.stride t 0)) 0 → ⊥
