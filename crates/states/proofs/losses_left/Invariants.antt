-- The loop's invariant: the losses left of the blocks passed are digits of the state's number.
use Rattle.std.proofs.Common.{ℕ, ◌≡◌, ◌<◌, length, get_or}
use Rattle.states.specs.States.{each}
use Rattle.states.proofs.States.{digits_of}
use Rattle.states.proofs.losses_left.Given as goal

abbrev pub invariant-loop-s : goal.invariant-loop-s
invariant-loop-s l = record {
  long : length l.left ≡ 6;
  digits : (t : ℕ) → t < l.s → get_or l.left t 0 ≡ digits_of (each l.shape.size) l.q t;
}
