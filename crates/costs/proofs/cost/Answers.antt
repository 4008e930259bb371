-- What the tactics leave open of `costs::cost`: a row that crosses the column has at least so many losses fewer left behind
-- it.
use Rattle.std.proofs.Common.{ℕ, ◌+◌, ◌<◌, ◌≤◌, List, arith}
use Rattle.states.specs.States.{each, firsts}
use Rattle.column.specs.Column.{Light, Crosses}
use Rattle.costs.proofs.Costs.{costs_none, costs_one, costs_two}
use Rattle.costs.proofs.cost.Goals as goal
use Rattle.costs.proofs.cost.Goals.{Else-can_be_whole}

-- where the column cannot be whole, a row that crosses it has fewer losses left behind it
fewer : (c : Else-can_be_whole) → let a = c.args in
    (row vs : List ℕ) (left next : ℕ → ℕ) → Light a.l a.heavy row a.known.now
    → ((s : ℕ) → s < a.heavy.n → left s ≤ each a.size s)
    → Crosses a.l a.y.now a.numbers.now a.heavy row a.j left next vs
    → firsts next a.heavy.n + 1 ≤ firsts left a.heavy.n
fewer c row vs left next light less crosses =
    let w = c.can_be_whole in
    costs_one crosses w.result (w.ensures row vs left next light less crosses) c.if-can_be_whole.false

pub returns-then-can_be_whole : goal.returns-then-can_be_whole
returns-then-can_be_whole c = (omega arith, λ row vs left next light less crosses. costs_none crosses)

pub returns-then-not-deep : goal.returns-then-not-deep
returns-then-not-deep c = (omega arith, fewer (goal.at.returns-then-not-deep c).Else-can_be_whole)

pub returns-then-can_lose_one : goal.returns-then-can_lose_one
returns-then-can_lose_one c = (omega arith, fewer (goal.at.returns-then-can_lose_one c).Else-can_be_whole)

pub returns : goal.returns
returns c = (
  omega arith,
  λ row vs left next light less crosses.
      costs_two crosses c.can_lose_one.result (c.can_lose_one.ensures row vs left next light less crosses)
      c.if-can_lose_one.false (fewer (goal.at.returns c).Else-can_be_whole row vs left next light less crosses),
)
