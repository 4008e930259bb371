-- The loop's invariant: the number so far is that of the losses left in the blocks passed, each at most 255 strides of
-- six bytes.
use Rattle.std.proofs.Common.{◌*◌, ◌≤◌, ◌≡◌}
use Rattle.states.specs.States.{state, each}
use Rattle.states.proofs.number_of.Given as goal

abbrev pub invariant-loop-s : goal.invariant-loop-s
invariant-loop-s l = record {
  number : l.q ≡ state (each l.shape.size) (each l.left) l.s;
  low : l.q ≤ 255 * 281474976710656 * l.s;
}
