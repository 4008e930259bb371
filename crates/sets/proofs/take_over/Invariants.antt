-- What `sets::take_over` keeps in its loop: the residues of the words passed are in both copies, and the words to come
-- stand as they did.
use Rattle.std.proofs.Common.{◌≡◌, ℕ, ◌*◌, ◌<◌, ◌≤◌, get_or}
use Rattle.sets.specs.Sets.{In, Twice}
use Rattle.sets.proofs.take_over.Given as goal

abbrev pub invariant-loop-i : goal.invariant-loop-i
invariant-loop-i l = record {
  over : (k : ℕ) → k < 64 * l.i → In l.initial.w-items k → Twice l.m l.set k;
  rest : (k : ℕ) → l.i ≤ k → get_or l.w-items k 0 ≡ get_or l.initial.w-items k 0;
}
