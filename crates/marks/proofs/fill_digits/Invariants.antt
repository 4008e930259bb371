-- The loop's invariant: the table is right for the states passed, and the losses left are those of the next state.
use Rattle.std.proofs.Common.{◌≡◌, ◌<◌}
use Rattle.states.specs.States.{each, state_of}
use Rattle.marks.specs.Digits.{Within}
use Rattle.marks.proofs.Digits.{Tabled}
use Rattle.marks.proofs.fill_digits.Given as goal

abbrev pub invariant-loop-q : goal.invariant-loop-q
invariant-loop-q l = record {
  tabled : Tabled l.shape l.q l.digits;
  within : Within l.shape (each l.left);
  number : l.q < l.shape.states → state_of l.shape (each l.left) ≡ l.q;
}
