-- The loop's invariant: the chunks of the heavy blocks passed are placed where they are read.
use Rattle.std.proofs.Common.{◌≡◌, ℕ, ◌+◌, ◌-◌, ◌<◌, ◌≤◌, length, get_or}
use Rattle.message.specs.declared.Layout.{Layout}
use Rattle.states.specs.States.{each}
use Rattle.column.specs.Column.{read_from}
use Rattle.column.specs.declared.Heavy.{Heavy}
use Rattle.column.proofs.find_chunks.Given as goal

-- the place and the losses of heavy block t
pub record At (l : Layout) (size : ℕ) (heavy : Heavy) (j : ℕ) (left next : ℕ → ℕ) (t at lost : ℕ) : Type 0 where
  pub starts : at ≡ read_from l heavy left j t - get_or heavy.end t 0
  pub loses : lost ≡ left t - next t
  pub within : at + l.nc ≤ size + lost

abbrev pub invariant-loop-s : goal.invariant-loop-s
invariant-loop-s l = record {
  count : l.chunks.n ≡ l.heavy.n;
  blocks : l.chunks.block ≡ l.heavy.block;
  places : length l.chunks.place ≡ 6;
  losses : length l.chunks.lost ≡ 6;
  placed : (t : ℕ) → t < l.s
      → At l.l (length l.y) l.heavy l.j (each l.left) (each l.next) t (get_or l.chunks.place t 0) (get_or l.chunks.lost t 0);
}
