-- The loop's invariant: the first i sums are those of the checks given and the row's own, and all are elements of the field.
use Rattle.std.proofs.Common.{◌≡◌, ℕ, ◌+◌, ◌%◌, ◌<◌, get_or, length}
use Rattle.std.specs.Int.Bits.{bit_xor}
use Rattle.recover.proofs.missing.Given as goal

abbrev pub invariant-loop-i : goal.invariant-loop-i
invariant-loop-i l = record {
  size : length l.out ≡ 16;
  low : (k : ℕ) → get_or l.out k 0 < l.size;
  sums : (k : ℕ) → k < l.i → get_or l.out k 0 ≡ bit_xor (get_or l.numbers (l.first + k) 0 % l.size) (get_or l.own k 0);
}
