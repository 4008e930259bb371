-- What `costs::columns_cost` keeps in its loop: what the columns passed cost, and what a row under the pattern has left at
-- the start of the column, is no more than all losses.
use Rattle.std.proofs.Common.{ℕ, ◌+◌, ◌*◌, ◌<◌, ◌≤◌, List}
use Rattle.states.specs.States.{each, firsts}
use Rattle.column.specs.Column.{Light}
use Rattle.marks.specs.Marks.{Path}
use Rattle.costs.proofs.columns_cost.Given as goal

abbrev pub invariant-loop-j : goal.invariant-loop-j
invariant-loop-j l = record {
  few : l.sum ≤ 2 * l.j;
  spent : (row vs : List ℕ) (own : ℕ → ℕ → ℕ) → Light l.l l.heavy row l.known
      → Path l.l l.y l.numbers l.heavy row (each l.size) vs own
      → ((s : ℕ) → s < l.heavy.n → own l.j s ≤ each l.size s)
      × (l.sum + firsts (own l.j) l.heavy.n ≤ firsts (each l.size) l.heavy.n);
}
