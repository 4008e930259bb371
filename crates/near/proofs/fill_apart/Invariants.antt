-- The loop's invariant: the blocks passed have their values.
use Rattle.std.proofs.Common.{ℕ, ◌<◌, ◌≤◌}
use Rattle.states.specs.States.{each}
use Rattle.near.specs.Near.{SaysIn}
use Rattle.near.proofs.fill_apart.Given as goal

abbrev pub invariant-loop-s : goal.invariant-loop-s
invariant-loop-s l =
    (t : ℕ) → t < l.s → (e : ℕ) → e ≤ each l.shape.size t
    → SaysIn l.columns l.before l.after t (each l.shape.size t) l.j l.values e
