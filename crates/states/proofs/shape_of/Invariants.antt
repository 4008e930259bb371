-- The loop's invariant: the strides of the blocks passed are as the shape of the states says, and so is the number of
-- states of these blocks.
use Rattle.std.proofs.Common.{ℕ, ◌≡◌, ◌<◌, length, get_or}
use Rattle.states.specs.States.{stride, each}
use Rattle.states.proofs.shape_of.Given as goal

abbrev pub invariant-loop-s : goal.invariant-loop-s
invariant-loop-s l = record {
  long : length l.stride ≡ 6;
  all : l.states ≡ stride (each l.fn.size) l.s;
  counts : (t : ℕ) → t < l.s → get_or l.stride t 0 ≡ stride (each l.fn.size) t;
}
