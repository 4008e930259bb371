-- The first loop's invariant: behind the last column the blocks passed have nothing to bring. The second loop's: from its
-- column on the table holds what the blocks of a row bring.
use Rattle.std.proofs.Common.{ℕ, ◌<◌, List, get_or}
use Rattle.residues.specs.Residues.{Has}
use Rattle.states.specs.States.{each}
use Rattle.marks.specs.Marks.{Path}
use Rattle.sums.specs.Sums.{block_modulus, HoldsFrom, rest_at}
use Rattle.rests.proofs.fill.Given as goal

abbrev pub invariant-loop-s : goal.invariant-loop-s
invariant-loop-s l = (t : ℕ) → t < l.s → Has (block_modulus l.l) (get_or l.rests (rest_at l.l.l2 t 0) 0) 0

abbrev pub invariant-loop-c : goal.invariant-loop-c
invariant-loop-c l =
    (row vs : List ℕ) (own : ℕ → ℕ → ℕ) → Path l.l l.y l.numbers l.fn.heavy row (each l.fn.size) vs own
    → HoldsFrom l.l l.fn.heavy l.rests vs own l.c
