-- The loop's invariant: the entries passed have what the chunk brings, and those before them stay.
use Rattle.std.proofs.Common.{◌≡◌, ℕ, ◌<◌, length, get_or}
use Rattle.states.specs.States.{entry_at}
use Rattle.whole.specs.Whole.{Legible, brings}
use Rattle.whole.proofs.fill_block.Given as goal

abbrev pub invariant-loop-e : goal.invariant-loop-e
invariant-loop-e l = record {
  before : (i : ℕ) → i < entry_at l.s 0 → get_or l.table i 0 ≡ get_or l.initial.table i 0;
  brought : (k : ℕ) → k < l.e → Legible l.l (length l.y) l.block l.end l.j k
      → get_or l.table (entry_at l.s k) 0 ≡ brings l.l l.y l.block l.end l.j k;
}
