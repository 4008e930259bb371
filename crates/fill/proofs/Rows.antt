-- What is known of a consistent row under a state: a line of chunks at most one of which is open has its sum, and its
-- chunk at a cell is one of the contents tried. Rests on the laws of lines, found and cells. Assumes nothing.
use Prim.Native.Nat.{ℕ, ◌+◌, ◌*◌, ◌<◌}
use mathlib.Core.Path.{◌≡◌, refl, sym, ap, ◌∙◌}
use mathlib.Core.Bool.{true}
use mathlib.Core.Logic.{◌⊎◌, inl, inr, ⊎_elim}
use mathlib.Core.List.{List}
use native.Mathlib.Nat.{add_comm, mul-one}
use native.Mathlib.Omega.{arith}
use lib.ListN.{length, get_or, set}
use Rattle.bits.proofs.Laws.{lt_or_ge}
use Rattle.vt.specs.Sum.{sum}
use Rattle.message.specs.Layout.{legal}
use Rattle.message.specs.declared.Layout.{Layout}
use Rattle.message.proofs.Legal.{legal_bounds}
use Rattle.consistent.specs.Greedy.{in_all}
use Rattle.erasures.specs.Erasures.{weight}
use Rattle.lines.specs.Lines.{values, line}
use Rattle.lines.proofs.Lines.{block_line, string_line}
use Rattle.found.specs.Found.{Given, Sent, InHand}
use Rattle.found.proofs.Found.{sent_parts}
use Rattle.cells.specs.Cells.{share, chunk_of, Open, Placed, Under, found}
use Rattle.cells.specs.declared.Cells.{Cells}
use Rattle.cells.proofs.Shares.{all_found}
use Rattle.cells.proofs.State.{chunk_inside, decide, chunk_in_hand, closed-column, closed_block}
use Rattle.recover.proofs.Weights.{weight-none}
use Rattle.fill.specs.Fill.{AllLose, With, Tried}

-- ---- one consistent row under a state
module _ {l : Layout} {numbers y x : List ℕ} (given : Given l numbers y) (s : Sent l numbers y x)
    {cells : Cells} {row : List ℕ} (u : Under l y cells row x) where
  -- a chunk-string without an open chunk has its sum in the row in hand
  pub string_has : (j : ℕ) → length cells.column ≡ 12 → j < l.l2 → share cells.column cells.lost j ≡ 0
      → sum (line l.nc j l.l2 l.l1 row) ≡ get_or numbers (l.l1 + j) 0
  string_has j n h e =
      ap sum (sym (closed-column l y cells row x u j n h e))
      ∙ sym (string_line l x s.0 j h)
      ∙ (sent_parts given x s).strings j h

  -- and so a block
  pub block_has : (i : ℕ) → length cells.block ≡ 12 → i < l.l1 → share cells.block cells.lost i ≡ 0
      → sum (line l.nc (i * l.l2) 1 l.l2 row) ≡ get_or numbers i 0
  block_has i n h e =
      ap sum (sym (closed_block l y cells row x u i n h e))
      ∙ sym (block_line l x s.0 i h)
      ∙ (sent_parts given x s).blocks i h

-- ---- a cell that is the only open one of its chunk-string, or of its block
module _ {l : Layout} {numbers y x : List ℕ} (given : Given l numbers y) (s : Sent l numbers y x)
    {cells : Cells} {row : List ℕ} (u : Under l y cells row x) (z : ℕ) (h : chunk_of l cells z < length row) where
  -- the row's own content there
  abbrev own : ℕ
  own = get_or (values l x) (chunk_of l cells z) 0

  -- with it the chunk-string in hand has its sum
  pub string_alone : length cells.column ≡ 12 → get_or cells.column z 0 < l.l2
      → share cells.column (set cells.lost z 0) (get_or cells.column z 0) ≡ 0
      → sum (line l.nc (get_or cells.column z 0) l.l2 l.l1
      (set row (get_or cells.column z 0 + get_or cells.block z 0 * l.l2) own))
      ≡ get_or numbers (l.l1 + get_or cells.column z 0) 0
  string_alone n g e =
      rw (add_comm (get_or cells.column z 0) (get_or cells.block z 0 * l.l2))
      (string_has given s (decide l y cells row x u z own h refl) (get_or cells.column z 0) n g e)

  -- and the block
  pub block_alone : length cells.block ≡ 12 → get_or cells.block z 0 < l.l1
      → share cells.block (set cells.lost z 0) (get_or cells.block z 0) ≡ 0
      → sum (line l.nc (get_or cells.block z 0 * l.l2) 1 l.l2
      (set row (get_or cells.block z 0 * l.l2 + get_or cells.column z 0 * 1) own))
      ≡ get_or numbers (get_or cells.block z 0) 0
  block_alone n g e =
      rw (mul-one (get_or cells.column z 0))
      (block_has given s (decide l y cells row x u z own h refl) (get_or cells.block z 0) n g e)

-- where no cell is open, a row under the state is the one in hand
pub closed_in_hand : {l : Layout} {y : List ℕ} {cells : Cells} {row x : List ℕ} → legal l ≡ true
    → weight cells.lost ≡ 0 → Under l y cells row x → InHand l row x
closed_in_hand {l} {y} {cells} {row} {x} e none u c h =
    chunk_in_hand l y cells row x u (legal_bounds l e).l2_low c h
    (λ o. omega (arith, weight-none cells.lost none o.0, o.1.0.1))

-- where a row under the state is the one in hand, each open cell loses just its count there
pub in_hand_loses : (l : Layout) (y : List ℕ) (cells : Cells) → Placed l (length y) cells
    → (hand : List ℕ) {row x : List ℕ}
    → Under l y cells row x → InHand l hand x → AllLose l y cells hand
in_hand_loses l y cells p hand u h z o =
    let q = p z o in
    let low = chunk_inside l (get_or cells.block z 0) (get_or cells.column z 0) q.0 q.1.0 in
    rw (h (chunk_of l cells z) low) at (u.loses z o)

-- ---- the contents of a cell, one after another
module _ (l : Layout) (y : List ℕ) (cells : Cells) (row : List ℕ) (z v : ℕ) {x : List ℕ} where
  -- once it is put into the row in hand, the cell is found
  pub with_found : (at : ℕ) → at ≡ chunk_of l cells z → at < length row → With l y cells row z v x
      → Under l y (found cells z) (set row at v) x
  with_found at e h w = rw e (decide l y cells row x w.0 z v (rw e at h) w.1)

-- among the first contents are those before the last of them, and that one
pub tried_next : (l : Layout) (y : List ℕ) (cells : Cells) (row : List ℕ) (z : ℕ) (contents : List ℕ) (u : ℕ) {x : List ℕ}
    → Tried l y cells row z contents (u + 1) x
    → Tried l y cells row z contents u x ⊎ With l y cells row z (get_or contents u 0) x
tried_next l y cells row z contents u t =
    let k = t.1 in
    ⊎_elim
    (λ h. inl (t.0, (k.0, (k.1.0, (h, k.1.1.1)))))
    (λ h. let e : k.0 ≡ u = omega (arith, k.1.1.0) in inr (t.0, sym (rw e at k.1.1.1)))
    (lt_or_ge k.0 u)

-- the losses that are still open fall when a cell is found
pub lost-less : (cells : Cells) (z : ℕ) → Open cells z → in_all (found cells z).lost < in_all cells.lost
lost-less cells z o = omega (arith, all_found cells.lost z, o.1)
