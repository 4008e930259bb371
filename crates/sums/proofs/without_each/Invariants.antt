-- The loop's invariant: the set has what is left of those that the contents passed bring.
use Rattle.std.proofs.Common.{ℕ, ◌+◌}
use Rattle.bits.specs.Bits.{digits}
use Rattle.vt.specs.Sum.{total}
use Rattle.contents.specs.Contents.{Among}
use Rattle.residues.specs.Residues.{Has}
use Rattle.sums.specs.Sums.{Completes}
use Rattle.sums.proofs.without_each.Given as goal

abbrev pub invariant-loop-k : goal.invariant-loop-k
invariant-loop-k l =
    (v n : ℕ) → Among l.list l.low l.k v → Completes l.nc l.beside v
    → Has l.m l.set (n + total l.first (digits l.nc v)) → Has l.m l.r n
