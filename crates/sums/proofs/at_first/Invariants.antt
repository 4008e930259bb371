-- The loop's invariant: the sets passed hold the sums of their blocks.
use Rattle.std.proofs.Common.{◌≡◌, ℕ, ◌%◌, ◌<◌, length, get_or}
use Rattle.residues.specs.Residues.{Has}
use Rattle.sums.proofs.at_first.Given as goal

abbrev pub invariant-loop-s : goal.invariant-loop-s
invariant-loop-s l = record {
  size : length l.sets ≡ 6;
  held : (t : ℕ) → t < l.s → get_or l.numbers (get_or l.fn.heavy.block t 0) 0 < 64 → (m k : ℕ)
      → k % m ≡ get_or l.numbers (get_or l.fn.heavy.block t 0) 0 → Has m (get_or l.sets t 0) k;
}
