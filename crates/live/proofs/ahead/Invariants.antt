-- What `live::ahead` keeps in its loop: up to column j the marks along every row that is not near cover its count.
use Rattle.std.proofs.Common.{ℕ, ◌≤◌, List}
use Rattle.states.specs.States.{each}
use Rattle.column.specs.Column.{Light}
use Rattle.marks.specs.Marks.{Path, Through, apart_before, apart_from}
use Rattle.live.proofs.Passes.{Passing}
use Rattle.live.proofs.ahead.Given as goal

abbrev pub invariant-loop-j : goal.invariant-loop-j
invariant-loop-j l =
    (row vs : List ℕ) (own : ℕ → ℕ → ℕ) → Light l.l l.heavy row l.known
    → Path l.l l.y l.numbers l.heavy row (each l.shape.size) vs own → l.room ≤ apart_from l.l l.heavy l.z vs 0
    → Through l.l l.shape l.fn.marks own (λ j. 0)
    → Passing l.l l.shape l.marks own (apart_before l.l l.heavy l.z vs) (λ i. i ≤ l.j)
