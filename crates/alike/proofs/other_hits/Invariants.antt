-- What `alike::other_hits` keeps in its loop: no reading that is passed, and is another than in z, hits the sum.
use Rattle.std.proofs.Common.{ℕ, ◌<◌}
use Rattle.far.specs.Far.{Reads, read_apart}
use Rattle.alike.specs.Alike.{Hits}
use Rattle.alike.proofs.other_hits.Given as goal

abbrev pub invariant-loop-e : goal.invariant-loop-e
invariant-loop-e l =
    (k : ℕ) → k < l.e → (part : ℕ) → Reads l.l l.y l.heavy l.s l.j k → 0 < read_apart l.l l.y l.heavy l.z l.s l.j k
    → Hits l.l l.y l.block l.end l.j k l.sum l.set part → ⊥
