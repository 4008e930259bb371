-- What `costs::repairs_some` keeps in its loop: with no number of losses left that is passed does the chunk bring the column
-- to its sum.
use Rattle.std.proofs.Common.{ℕ, ◌<◌, ◌≤◌}
use Rattle.costs.specs.Costs.{Repairs}
use Rattle.costs.proofs.repairs_some.Given as goal

abbrev pub invariant-loop-left : goal.invariant-loop-left
invariant-loop-left l =
    (e : ℕ) → 1 ≤ e → e < l.left → (v part : ℕ) → Repairs l.l l.y l.block l.end l.j e l.sum l.set v part → ⊥
