-- One chunk against the received row: the bits that it takes and those that it loses. Rests on the laws of lines.
-- Assumes nothing.
use Prim.Native.Nat.{ℕ, ◌+◌, ◌-◌}
use mathlib.Core.Path.{◌≡◌, ◌∙◌}
use mathlib.Core.List.{List, [], ◌∷◌, ◌++◌, append_assoc}
use borrow.Author.Rules.{part_to_end}
use lib.ListN.{length, take, drop}
use lib.Seq.{take_at}
use Rattle.bits.specs.Bits.{digits}
use Rattle.bits.proofs.Laws.{length_digits}
use Rattle.consistent.specs.Greedy.{losses}
use Rattle.lines.specs.Lines.{line}
use Rattle.lines.proofs.Lines.{line_cons}

-- a chunk is spread to the start of a slice: the bits that it takes of y from a place on and those that it loses are
-- all it has
pub taken-lost : (nc v place n : ℕ) (out old y : List ℕ) → out ≡ [] ++ line nc 0 1 1 (v ∷ []) ++ old
    → losses (take nc out) (take (length y - place) (drop place y)) + n ≡ length (take nc out)
    → losses (digits nc v) (drop place y) + n ≡ nc
taken-lost nc v place n out old y e t =
    let d : take nc out ≡ digits nc v =
    rw (e, line_cons nc 0 1 0 (v ∷ []), append_assoc)
    (take_at (digits nc v) (line nc 1 1 0 (v ∷ []) ++ old) nc (length_digits nc v))
    in
    (rw (d, part_to_end y place) at t) ∙ length_digits nc v
