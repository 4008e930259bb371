-- Chunk-strings and blocks as lines of one chunk: where they stand, what their sum is in a consistent row, and what is
-- known of them where they have exactly one open loss. Assumes nothing.
use Prim.Native.Nat.{ℕ, ◌+◌, ◌-◌, ◌*◌, ◌<◌, ◌≤◌}
use mathlib.Core.Path.{◌≡◌, refl, sym, ap, ◌∙◌}
use mathlib.Core.Bool.{Bool, true, false}
use mathlib.Core.Logic.{inr}
use mathlib.Core.List.{List}
use native.Mathlib.Nat.{mul-one, mul_comm, add_comm}
use native.Mathlib.Omega.{arith}
use lib.ListN.{length, get_or, take, drop, set}
use lib.Seq.{get_or-take}
use Rattle.bits.specs.Bits.{digits}
use Rattle.bits.proofs.Laws.{length_digits}
use Rattle.vt.specs.Sum.{sum}
use Rattle.message.specs.Layout.{legal}
use Rattle.message.specs.declared.Layout.{Layout}
use Rattle.message.proofs.Legal.{legal_bounds, sizes}
use Rattle.consistent.proofs.Greedy.{piece}
use Rattle.lines.specs.Lines.{values, line, Inside, Mendable}
use Rattle.lines.proofs.Lines.{value_low, block_line, string_line, block_inside, string_inside}
use Rattle.found.specs.Found.{Given, Sent}
use Rattle.found.proofs.Found.{sent_parts}
use Rattle.cells.specs.Cells.{SingleAt, chunk_of, Open, OpenAt, Placed, SameBut, Under, found}
use Rattle.cells.specs.declared.Cells.{Cells}
use Rattle.cells.proofs.Same.{cell_set}
use Rattle.cells.proofs.State.{chunk_inside, decide, single_column, single_block}
use Rattle.turns.specs.Turns.{keys_of, line_of, Ready, chunk_at, Short}
use Rattle.turns.specs.declared.Line.{Line}

-- ---- where a line stands
module _ (l : Layout) (e : legal l ≡ true) (i j : ℕ) (h : i < l.l1) (g : j < l.l2) where
  -- inside of the row
  line-inside : (strings : Bool) → let n = line_of strings l i j in
      Inside l.nc n.start n.stride n.count (l.l1 * l.l2)
  line-inside true = string_inside l e (l.l1 * l.l2) (omega arith) j g
  line-inside false = block_inside l e (l.l1 * l.l2) (omega arith) i h

  -- the marked chunk is its own
  mark-inside : (strings : Bool) → let n = line_of strings l i j in n.hole < n.count
  mark-inside true = h
  mark-inside false = g

  -- and is chunk j of block i
  mark-chunk : (strings : Bool) → let n = line_of strings l i j in n.start + n.hole * n.stride ≡ i * l.l2 + j
  mark-chunk true = add_comm j (i * l.l2)
  mark-chunk false = rw (mul-one j) refl

  -- ---- its sum, one of the numbers given
  module _ {numbers y : List ℕ} (given : Given l numbers y) where
    sum_low : (strings : Bool) → let n = line_of strings l i j in get_or numbers n.number 0 ≤ n.count * l.nc
    sum_low true = omega (arith, given.strings j g, mul_comm l.nc l.l1)
    sum_low false = given.blocks i h

    -- in a consistent row the line has it
    sum-given : (strings : Bool) (x : List ℕ) → Sent l numbers y x
        → let n = line_of strings l i j in
        sum (line l.nc n.start n.stride n.count (values l x)) ≡ get_or numbers n.number 0
    sum-given true x s = sym (string_line l x s.0 j g) ∙ (sent_parts given x s).strings j g
    sum-given false x s = sym (block_line l x s.0 i h) ∙ (sent_parts given x s).blocks i h

-- ---- the chunks of a row in hand that may be longer
pub front_same : (l : Layout) (free : ℕ → ℕ → Type 0) (row : List ℕ) → SameBut l free row (take (l.l1 * l.l2) row)
front_same l free row =
    record { at = λ i c h g. inr (get_or-take (l.l1 * l.l2) row (i * l.l2 + c) 0 (chunk_inside l i c h g)) }

-- ---- a line that lost one bit: the next nc − 1 bits received come from its short chunk
pub short-bits : {nc : ℕ} {n : Line} {s : ℕ} {z vs us : List ℕ} → Short nc n s z vs us
    → (nc - 1 ≤ length z) × Mendable nc n.start n.stride n.count n.hole s (take (nc - 1) z) vs us
short-bits {nc} {n} {s} {z} {vs} {us} k =
    let v = chunk_at n us in
    let p = piece nc 1 (digits nc v) z (length_digits nc v) k.loses in
    (p.within, record { around = k.around; has_sum = k.has_sum; comes = p.comes; small = k.small })

-- ---- the line of a cell that has its only open loss
module _ {l : Layout} {numbers y : List ℕ} (given : Given l numbers y) (cells : Cells)
    (placed : Placed l (length y) cells)
    (strings : Bool) {z : ℕ} (h : z < 12) (single : SingleAt (keys_of strings cells) cells.lost z) where
  -- where the cell stands
  abbrev pub Block : ℕ
  Block = get_or cells.block z 0

  abbrev pub Column : ℕ
  Column = get_or cells.column z 0

  abbrev pub Its-line : Line
  Its-line = line_of strings l Block Column

  single-open : Open cells z
  single-open = (h, omega (arith, single.one))

  pub block_low : Block < l.l1
  block_low = (placed z single-open).0

  pub column-low : Column < l.l2
  column-low = (placed z single-open).1.0

  -- its chunk may be set
  pub single_set : (v : ℕ) {row : List ℕ} → SameBut l (OpenAt cells) row (set row (chunk_of l cells z) v)
  single_set v = cell_set l cells z v single-open column-low

  -- it can be mended by its sum
  pub single_ready : Ready l.nc y (get_or cells.place z 0) Its-line (get_or numbers Its-line.number 0) (l.l1 * l.l2)
  single_ready =
      let e = given.is_legal in
      record {
        inside = line-inside l e Block Column block_low column-low strings;
        few = (sizes l (legal_bounds l e)).chunks;
        some_bits = omega (arith, (legal_bounds l e).nc_low);
        marked = mark-inside l e Block Column block_low column-low strings;
        sum_low = sum_low l e Block Column block_low column-low given strings;
        starts = (placed z single-open).1.1;
        bits = given.bits;
      }

  -- a consistent row under the state has the sum there, and lost one bit in the cell
  module _ (b : length cells.block ≡ 12) (c : length cells.column ≡ 12) {row x : List ℕ} (sent : Sent l numbers y x)
      (u : Under l y cells row x) where
    single-around : (k : Bool) → SingleAt (keys_of k cells) cells.lost z
        → let n = line_of k l Block Column in
        (t : ℕ) → t < n.count → (t ≡ n.hole → ⊥)
        → get_or (values l x) (n.start + t * n.stride) 0 ≡ get_or row (n.start + t * n.stride) 0
    single-around true s = single_column l y cells row x u z c h column-low s
    single-around false s = single_block l y cells row x u z b h block_low s

    its-chunk : chunk_at Its-line (values l x) ≡ get_or (values l x) (chunk_of l cells z) 0
    its-chunk =
        let e = given.is_legal in
        ap (λ (k : ℕ). get_or (values l x) k 0) (mark-chunk l e Block Column block_low column-low strings)

    pub single_short : Short l.nc Its-line (get_or numbers Its-line.number 0) (drop (get_or cells.place z 0) y) row
        (values l x)
    single_short =
        record {
          around = single-around strings single;
          has_sum = sum-given l given.is_legal Block Column block_low column-low given strings x sent;
          loses = rw its-chunk (u.loses z single-open ∙ single.one);
          small = value_low l x sent.0 (Its-line.start + Its-line.hole * Its-line.stride);
        }

    -- so where the chunk is found there, the row is under the state with that cell found
    pub single_found : {v : ℕ} → l.l1 * l.l2 ≤ length row → v ≡ chunk_at Its-line (values l x)
        → Under l y (found cells z) (set row (chunk_of l cells z) v) x
    single_found {v} m e =
        decide l y cells row x u z v
        (omega (arith, chunk_inside l Block Column block_low column-low)) (sym (e ∙ its-chunk))
