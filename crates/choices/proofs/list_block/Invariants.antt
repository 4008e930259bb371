-- The loop's invariant: the choices with fewer losses than a are listed, and these are few.
use Rattle.std.proofs.Common.{◌+◌, ◌<◌, ◌≤◌}
use Rattle.choices.specs.Choices.{Keeps, most_choices, ChoicesOf}
use Rattle.choices.proofs.Listing.{below}
use Rattle.choices.proofs.list_block.Given as goal

abbrev pub invariant-loop-a : goal.invariant-loop-a
invariant-loop-a l = record {
  keeps : Keeps l.t l.initial.choices l.choices;
  low : l.t ≤ l.end;
  most : l.end ≤ l.t + most_choices;
  few : l.a ≤ 9 → l.end ≤ l.t + below l.a;
  listed : ChoicesOf l.l l.y l.heavy l.z l.j l.b l.left l.one l.choices l.t l.end
      (λ next vs. (next l.b ≤ l.left) × (l.left < next l.b + l.a));
}
