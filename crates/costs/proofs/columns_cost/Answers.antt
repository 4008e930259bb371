-- What the tactics leave open of `costs::columns_cost`.
use Rattle.std.proofs.Common.{ℕ, ◌+◌, ◌≤◌, List, arith}
use Rattle.message.proofs.Legal.{legal_bounds, sizes}
use Rattle.states.specs.States.{each, firsts}
use Rattle.column.specs.Column.{Light}
use Rattle.marks.specs.Marks.{Path}
use Rattle.costs.proofs.Costs.{firsts_fall}
use Rattle.costs.proofs.columns_cost.Goals as goal
use Rattle.costs.proofs.columns_cost.Goals.{After-cost-sum}

-- behind the column, what is passed and what is left is no more than all losses
spent : (c : After-cost-sum) → let a = c.args in
    (row vs : List ℕ) (own : ℕ → ℕ → ℕ) → Light a.l a.heavy row a.known.now
    → Path a.l a.y.now a.numbers.now a.heavy row (each a.size) vs own
    → c.loop-j.sum + c.cost-sum.result + firsts (own (c.loop-j.j + 1)) a.heavy.n ≤ firsts (each a.size) a.heavy.n
spent c row vs own light path =
    let j = c.loop-j.j in
    let was = c.loop-j.invariant.spent row vs own light path in
    omega (
      arith,
      was.1,
      c.cost-sum.ensures.1 row vs (own j) (own (j + 1)) light was.0 (path.crosses j (omega arith)),
    )

-- no column is passed
pub loop-j-init : goal.loop-j-init
loop-j-init c =
    record {
      few = omega arith;
      spent = λ row vs own light path. (
        λ s h. omega (arith, path.starts s h),
        omega (
          arith,
          firsts_fall (each c.args.size) (own 0) c.args.heavy.n (λ s h. omega (arith, path.starts s h)),
        ),
      );
    }

-- one column more is passed
pub loop-j-preserved : goal.loop-j-preserved
loop-j-preserved c =
    record {
      few = omega (arith, c.cost-sum.ensures.0);
      spent = λ row vs own light path.
          let falls = (path.crosses c.loop-j.j (omega arith)).falls in
          let was = c.loop-j.invariant.spent row vs own light path in (
            λ s h. omega (arith, falls s h, was.0 s h),
            spent (goal.at.loop-j-preserved c).After-cost-sum row vs own light path,
          );
    }

-- the sum is above the limit already
pub returns-then-limit-sum : goal.returns-then-limit-sum
returns-then-limit-sum c = (
  omega (arith, (sizes c.args.l (legal_bounds c.args.l c.requires.0.allowed)).l2_high, c.cost-sum.ensures.0),
  λ row vs own light path. omega (arith, spent (goal.at.returns-then-limit-sum c).After-cost-sum row vs own light path),
)

-- all columns are passed
pub returns-after-loop-j : goal.returns-after-loop-j
returns-after-loop-j c = (
  omega (arith, (sizes c.args.l (legal_bounds c.args.l c.requires.0.allowed)).l2_high),
  λ row vs own light path. omega (arith, (c.loop-j.invariant.spent row vs own light path).1),
)
