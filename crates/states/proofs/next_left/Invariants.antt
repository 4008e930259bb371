-- The loop's invariant: one loss more in block s would make the number of the state after the one at the start.
use Rattle.std.proofs.Common.{ℕ, ◌+◌, ◌<◌, ◌≤◌, ◌≡◌, length, get_or}
use Rattle.states.specs.States.{stride, state, each}
use Rattle.states.proofs.next_left.Given as goal

abbrev pub invariant-loop-s : goal.invariant-loop-s
invariant-loop-s l = record {
  long : length l.next ≡ 6;
  within : (t : ℕ) → t < l.n → get_or l.next t 0 ≤ each l.size t;
  number : state (each l.size) (each l.next) l.n + stride (each l.size) l.s
      ≡ state (each l.size) (each l.fn.left) l.n + 1;
}
