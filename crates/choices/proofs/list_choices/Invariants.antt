-- The loop's invariant: the choices of the blocks before b are listed.
use Rattle.std.proofs.Common.{◌≡◌, ◌*◌, ◌≤◌, length, get_or}
use Rattle.states.specs.States.{stride, each}
use Rattle.choices.specs.Choices.{most_choices, Blocks}
use Rattle.choices.proofs.list_choices.Given as goal

abbrev pub invariant-loop-b : goal.invariant-loop-b
invariant-loop-b l = record {
  parts : length l.from ≡ 7;
  few : get_or l.from l.b 0 ≤ most_choices * l.b;
  listed : Blocks l.l l.y l.heavy l.z l.j (each l.left) (stride (each l.shape.size)) l.choices l.from l.b;
}
