-- What `sets::put_in` keeps in its loop: what was in the other set is, and so are the bits of the words passed.
use Rattle.std.proofs.Common.{ℕ, ◌+◌, ◌*◌, ◌<◌}
use Rattle.sets.specs.Sets.{In, Grows}
use Rattle.sets.proofs.put_in.Given as goal

abbrev pub invariant-loop-i : goal.invariant-loop-i
invariant-loop-i l = record {
  grows : Grows l.initial.to l.to;
  put : (k : ℕ) → k < 64 * l.i → In l.from (l.a + k) → In l.to k;
}
