-- The loop's invariant: what the set and the contents passed bring is held.
use Rattle.std.proofs.Common.{ℕ, ◌+◌}
use Rattle.bits.specs.Bits.{digits}
use Rattle.vt.specs.Sum.{total}
use Rattle.contents.specs.Contents.{Among}
use Rattle.residues.specs.Residues.{Has}
use Rattle.sums.proofs.with_each.Given as goal

abbrev pub invariant-loop-k : goal.invariant-loop-k
invariant-loop-k l =
    (v n : ℕ) → Among l.list l.low l.k v → Has l.m l.set n → Has l.m l.r (n + total l.first (digits l.nc v))
