-- What `costs::add_block` keeps in its loop: the set is moved in by what each reading passed brings, and by the last of
-- them.
use Rattle.std.proofs.Common.{ℕ, ◌<◌, length}
use Rattle.whole.specs.Whole.{modulus, Legible, brings}
use Rattle.sets.specs.Sets.{Moved}
use Rattle.costs.proofs.add_block.Given as goal

abbrev pub invariant-loop-e : goal.invariant-loop-e
invariant-loop-e l = record {
  last : l.last < l.m → Moved l.m l.last l.from l.to;
  passed : (k : ℕ) → k < l.e → Legible l.l (length l.y) l.block l.end l.j k
      → Moved (modulus l.l) (brings l.l l.y l.block l.end l.j k) l.from l.to;
}
