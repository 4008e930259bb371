-- The loop's invariant: the set has what is known of the column with what the chunks passed bring.
use Rattle.std.proofs.Common.{◌≡◌, ℕ, ◌+◌, ◌<◌, get_or}
use Rattle.contents.specs.Contents.{Among}
use Rattle.residues.specs.Residues.{Has}
use Rattle.sums.specs.Sums.{others_bring}
use Rattle.sums.proofs.other_sums.Given as goal

abbrev pub invariant-loop-b : goal.invariant-loop-b
invariant-loop-b l =
    (vs : ℕ → ℕ) → l.known < l.modulus
    → ((t : ℕ) → t < l.b → (t ≡ l.s → ⊥) → Among l.list (get_or l.from t 0) (get_or l.from (t + 1) 0) (vs t))
    → Has l.modulus l.r (l.known + others_bring l.nc l.block vs l.s l.b)
