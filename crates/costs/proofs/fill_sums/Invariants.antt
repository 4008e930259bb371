-- What `costs::fill_sums` keeps in its loop: the residue of the sum of the chunks in hand and of what the chunks of the
-- blocks passed bring, but that one, is in both copies of the set, with whatever losses left they are read.
use Rattle.std.proofs.Common.{ℕ, ◌+◌, ◌%◌, length, get_or}
use Rattle.states.specs.States.{firsts}
use Rattle.whole.specs.Whole.{modulus}
use Rattle.sets.specs.Sets.{Twice}
use Rattle.costs.specs.Costs.{ReadBut, brings_but}
use Rattle.costs.proofs.fill_sums.Given as goal

abbrev pub invariant-loop-s : goal.invariant-loop-s
invariant-loop-s l =
    (left : ℕ → ℕ) → ReadBut l.l (length l.y) l.heavy l.size l.j left l.but l.s
    → Twice (modulus l.l) l.set
    ((get_or l.known l.j 0 + firsts (brings_but l.l l.y l.heavy l.j left l.but) l.s) % modulus l.l)
