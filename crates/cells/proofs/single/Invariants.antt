-- The loop's invariant: no cell that was passed has the only open loss of its key.
use Rattle.std.proofs.Common.{ℕ, ◌<◌}
use Rattle.cells.specs.Cells.{SingleAt}
use Rattle.cells.proofs.single.Given as goal

abbrev pub invariant-loop-z : goal.invariant-loop-z
invariant-loop-z l = (k : ℕ) → k < l.z → SingleAt l.fn.keys l.fn.lost k → ⊥
