-- The loop's invariant: the first i - 1 numbers have the chunk taken out.
use Rattle.std.proofs.Common.{ℕ, suc, ◌≡◌, ◌<◌, length, get_or}
use Rattle.field.specs.Field.{Elements}
use Rattle.erasures.specs.Erasures.{without}
use Rattle.erasures.proofs.take_out.Given as goal

abbrev pub invariant-loop-i : goal.invariant-loop-i
invariant-loop-i l = record {
  long : length l.out ≡ 16;
  elements : Elements l.nc l.out;
  taken : (k : ℕ) → suc k < l.i → get_or l.out k 0 ≡ without l.nc l.c (get_or l.s k 0) (get_or l.s (suc k) 0);
}
