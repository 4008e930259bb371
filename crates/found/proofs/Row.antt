-- The row in hand on its way to the list slice: its chunks spread to bits, and the bits packed. Assumes nothing.
use Prim.Native.Nat.{ℕ, ◌+◌, ◌-◌, ◌*◌, ◌≤◌}
use mathlib.Core.Path.{◌≡◌, sym, ◌∙◌}
use mathlib.Core.List.{List, ◌++◌}
use native.Mathlib.Nat.{mul-le-mul}
use native.Mathlib.Omega.{arith}
use lib.ListN.{length, take}
use lib.Seq.{take_at}
use Rattle.bits.specs.Bits.{longest, bytes_for}
use Rattle.rows.specs.Order.{Row}
use Rattle.message.specs.Layout.{row_bits}
use Rattle.message.specs.declared.Layout.{Layout}
use Rattle.message.proofs.Legal.{legal_bounds, sizes}
use Rattle.consistent.specs.Query.{Query}
use Rattle.lines.specs.Lines.{values, line}
use Rattle.lines.proofs.Lines.{length-line, bits-line, row_line, line_same}
use Rattle.found.specs.Given.{Given, InHand}

-- the first part of a slice, where that part was written at its start
pub front_part : (part rest s : List ℕ) (n : ℕ) → length part ≡ n → s ≡ part ++ rest → take (n - 0) s ≡ part
front_part part rest s n h e =
    let z : n - 0 ≡ n = omega arith in
    rw (z, e) (take_at part rest n h)

-- ---- a row of the layout
module _ {q : Query} (given : Given q) where
  -- it has bits, and not too many
  pub row-some : 1 ≤ bytes_for (row_bits q.layout)
  row-some =
      let b = legal_bounds q.layout given.is_legal in
      let n : 1 * 1 * 3 ≤ row_bits q.layout = mul-le-mul (mul-le-mul b.l1_low b.l2_low) b.nc_low in
      omega arith

  pub row-short : (x : List ℕ) → Row (row_bits q.layout) x → length x ≤ longest
  row-short x row = omega (arith, row.0, (sizes q.layout (legal_bounds q.layout given.is_legal)).row)

-- ---- the chunks in hand, spread to bits
abbrev pub hand_bits : Layout → List ℕ → List ℕ
hand_bits l row = line l.nc 0 1 (l.l1 * l.l2) row

pub hand-row : (l : Layout) (row : List ℕ) → Row (row_bits l) (hand_bits l row)
hand-row l row = (length-line l.nc 0 1 (l.l1 * l.l2) row, bits-line l.nc 0 1 (l.l1 * l.l2) row)

-- they are the only row with these chunks
pub hand-only : (l : Layout) (row x : List ℕ) → Row (row_bits l) x → InHand l row x → x ≡ hand_bits l row
hand-only l row x r h =
    sym (row_line l x r)
    ∙ line_same l.nc 0 1 (l.l1 * l.l2) (values l x) row (λ t k. let e : 0 + t * 1 ≡ t = omega arith in rw e (h t k))
