-- The measure is the number of blocks that are left. The loop's invariant: the marks are raised for all picks of a choice
-- of block b before t.
use Rattle.std.proofs.Common.{ℕ, ◌<◌}
use Rattle.steps.specs.Steps.{Raises, Picks, Gains}
use Rattle.steps.proofs.+sweep.Given as goal

abbrev pub decreases-sweep : goal.decreases-sweep
decreases-sweep l = l.s

abbrev pub invariant-loop-t : goal.invariant-loop-t
invariant-loop-t l = record {
  raises : Raises l.initial.fresh l.fresh;
  gains : (pick : ℕ → ℕ) → Picks l.from pick l.s → pick l.b < l.t
      → Gains l.choices l.modulus l.need l.there l.marks l.at l.s l.stand l.fresh pick;
}
