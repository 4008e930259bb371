-- Mending (document 01, "Operations and their refusal table"): "the string of length w with that sum from which those
-- bits come by one deletion (exactly one exists)".
use Rattle.std.specs.Prelude.{ℕ, ◌-◌, Bool, not, ◌&&◌, ◌||◌, cond, List, [], ◌∷◌, ◌++◌, eqb, ltb, length, take, drop}
use Rattle.refusal.specs.Refusal.{first_refusal}
use Rattle.bits.specs.Bits.{longest, bytes_for, pack, unpack, fits}
use Rattle.rows.specs.Deletion.{comes_from}
use Rattle.rows.specs.Rows.{all_rows, keep, first_of}
use Rattle.vt.specs.Sum.{sum}

-- x has the sum s, and y comes from it by one deletion
unfoldable pub mends : (s : ℕ) (y x : List ℕ) → Bool
unfolding sum comes_from
mends s y x = eqb (sum x) s && comes_from x 1 y

-- the string of length w that the sum s and the bits y pick: the first such string in dictionary order, and the only one
unfoldable pub mended : (w s : ℕ) → List ℕ → List ℕ
unfolding all_rows keep mends
mended w s y = first_of (keep (mends s y) (all_rows w))

-- what mending refuses, for a length w, a sum s, the packed bits and a target of so many bytes
unfoldable pub mend_refusal : (w s : ℕ) (packed : List ℕ) (target : ℕ) → ℕ
unfolding first_refusal fits
mend_refusal w s packed target =
    first_refusal
    ((3, ltb w 1 || ltb longest w)
    ∷ (5, ltb w s)
    ∷ (8, not (fits (w - 1) packed))
    ∷ (10, ltb target (bytes_for w))
    ∷ [])

-- the target afterwards: the mended string at its start; unchanged where mending refuses
unfoldable pub mend_target : (w s : ℕ) (packed target : List ℕ) → List ℕ
unfolding mend_refusal mended pack unpack
mend_target w s packed target =
    cond (eqb (mend_refusal w s packed (length target)) 0)
    (pack (mended w s (take (w - 1) (unpack packed))) ++ drop (bytes_for w) target) target
