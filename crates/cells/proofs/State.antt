-- The rows under a state: what is known of a block or a chunk-string by the losses that are still open in it, and what
-- a cell that is found changes. Assumes nothing.
use Prim.Native.Nat.{ℕ, ◌+◌, ◌*◌, ◌/◌, ◌%◌, ◌<◌}
use mathlib.Core.Path.{◌≡◌, refl, sym, ap, ◌∙◌}
use mathlib.Core.Bool.{Bool, true, false}
use mathlib.Core.Logic.{◌⊎◌, inl, inr, ⊎_elim}
use mathlib.Core.List.{List}
use native.Mathlib.Nat.{mul-one, add_comm, mod-lt, div-lt_iff_lt-mul, div-add-mod'}
use native.Mathlib.Omega.{arith}
use borrow.Author.Tests.{eqb-true, eqb-false}
use lib.Dec.{eqb}
use lib.ListN.{length, get_or, drop, set}
use lib.Seq.{get_or-set_same, get_or-set_other}
use Rattle.bits.specs.Bits.{most_chunks, digits}
use Rattle.bits.proofs.Laws.{set_zero}
use Rattle.message.specs.Layout.{legal}
use Rattle.message.specs.declared.Layout.{Layout}
use Rattle.message.proofs.Fields.{field_room}
use Rattle.message.proofs.Legal.{chunk_lies}
use Rattle.consistent.specs.Greedy.{losses}
use Rattle.lines.specs.Lines.{values, line}
use Rattle.lines.proofs.Lines.{line_same}
use Rattle.cells.specs.Cells.{share, SingleAt, chunk_of, Open, OpenAt, Placed, Under, found}
use Rattle.cells.specs.declared.Cells.{Cells}
use Rattle.cells.proofs.Shares.{share-none, share-one}

pub same_or_not : (a b : ℕ) → (a ≡ b) ⊎ (a ≡ b → ⊥)
same_or_not a b = go (eqb a b) refl
  where
    go : (t : Bool) → eqb a b ≡ t → (a ≡ b) ⊎ (a ≡ b → ⊥)
    go true e = inl (eqb-true a b e)
    go false e = inr (eqb-false a b e)

-- chunk j of block i, counted in row order, is one of a row's
pub chunk-low : (l : Layout) → legal l ≡ true → (i j : ℕ) → i < l.l1 → j < l.l2 → i * l.l2 + j < most_chunks
chunk-low l e i j h g = (chunk_lies l e i j h g).low

-- and one of the layout's
pub chunk_inside : (l : Layout) (i j : ℕ) → i < l.l1 → j < l.l2 → i * l.l2 + j < l.l1 * l.l2
chunk_inside l i j h g = omega (arith, field_room l.l1 l.l2 i h)

-- ---- the open cells of a block or a column
module _ (cells : Cells) (keys : List ℕ) (n : length keys ≡ 12) where
  -- a key without losses has none
  pub none_open : (key : ℕ) → share keys cells.lost key ≡ 0 → (w : ℕ) → Open cells w → get_or keys w 0 ≡ key → ⊥
  none_open key s w o e = absurd (omega (arith, share-none keys cells.lost key s w (omega arith) e))

  -- a key with one loss has only the cell that lost it
  pub only_open : (z : ℕ) → z < 12 → SingleAt keys cells.lost z
      → (w : ℕ) → Open cells w → get_or keys w 0 ≡ get_or keys z 0 → w ≡ z
  only_open z h s w o e = ⊎_elim (λ p. p) (λ d. absurd (omega (arith, others w (omega arith) d e))) (same_or_not w z)
    where
      others : (w : ℕ) → w < length keys → (w ≡ z → ⊥) → get_or keys w 0 ≡ get_or keys z 0 → get_or cells.lost w 0 ≡ 0
      others = (share-one keys cells.lost (get_or keys z 0) s.alone z (omega arith) refl (omega (arith, s.one))).1

-- ---- a cell that is found
module _ (cells : Cells) (z w : ℕ) where
  -- a cell that is open afterwards is another, which was open before
  pub open_before : Open (found cells z) w → (w ≡ z → ⊥) × Open cells w
  open_before o =
      let n : (w ≡ z → ⊥) = λ e. absurd (omega (arith, rw e at o.1, set_zero cells.lost z)) in
      (n, (o.0, rw (get_or-set_other cells.lost z w 0 0 n) at o.1))

  -- and every other that was open still is, with its losses
  pub open_after : (w ≡ z → ⊥) → Open cells w → Open (found cells z) w
  open_after n o = (o.0, rw (get_or-set_other cells.lost z w 0 0 n) o.1)

-- the cells stand where they stood
pub placed-found : (l : Layout) (m : ℕ) (cells : Cells) (z : ℕ) → Placed l m cells → Placed l m (found cells z)
placed-found l m cells z p w o = p w (open_before cells z w o).1

module _ (l : Layout) (y : List ℕ) (cells : Cells) (row x : List ℕ) (u : Under l y cells row x) where
  -- a cell is found: its chunk goes into the row in hand, and it has no losses left
  pub decide : (z v : ℕ) → chunk_of l cells z < length row → get_or (values l x) (chunk_of l cells z) 0 ≡ v
      → Under l y (found cells z) (set row (chunk_of l cells z) v) x
  decide z v h e = record { decided = record { at = now-decided }; loses = still }
    where
      at : ℕ
      at = chunk_of l cells z

      put : (c : ℕ) → (c ≡ at) ⊎ (get_or (values l x) c 0 ≡ get_or row c 0) → get_or (values l x) c 0 ≡ get_or (set row at v) c 0
      put c (inl p) = rw p (e ∙ sym (get_or-set_same row at v 0 h))
      put c (inr q) =
          ⊎_elim
          (λ p. rw p (e ∙ sym (get_or-set_same row at v 0 h)))
          (λ n. q ∙ sym (get_or-set_other row at c v 0 n))
          (same_or_not c at)

      now-decided : (i j : ℕ) → i < l.l1 → j < l.l2
          → OpenAt (found cells z) i j ⊎ (get_or (values l x) (i * l.l2 + j) 0 ≡ get_or (set row at v) (i * l.l2 + j) 0)
      now-decided i j p q =
          ⊎_elim
          (λ o. was-open o (same_or_not o.0 z))
          (λ f. inr (put (i * l.l2 + j) (inr f)))
          (u.decided.at i j p q)
        where
          was-open : (o : OpenAt cells i j) → (o.0 ≡ z) ⊎ (o.0 ≡ z → ⊥)
              → OpenAt (found cells z) i j ⊎ (get_or (values l x) (i * l.l2 + j) 0 ≡ get_or (set row at v) (i * l.l2 + j) 0)
          was-open o (inl f) = inr (put (i * l.l2 + j) (inl (cc (f, o.1.1.0, o.1.1.1))))
          was-open o (inr n) = inl (o.0, (open_after cells z o.0 n o.1.0, o.1.1))

      still : (w : ℕ) → Open (found cells z) w
          → losses (digits l.nc (get_or (values l x) (chunk_of l cells w) 0)) (drop (get_or cells.place w 0) y)
          ≡ get_or (set cells.lost z 0) w 0
      still w o =
          let b = open_before cells z w o in
          u.loses w b.1 ∙ sym (get_or-set_other cells.lost z w 0 0 b.0)

  -- a chunk where no cell is open is the one in hand
  pub in_hand : (i j : ℕ) → i < l.l1 → j < l.l2 → (OpenAt cells i j → ⊥)
      → get_or (values l x) (i * l.l2 + j) 0 ≡ get_or row (i * l.l2 + j) 0
  in_hand i j h g n = ⊎_elim (λ o. absurd (n o)) (λ e. e) (u.decided.at i j h g)

  -- the same of a chunk that is given by its number in row order
  pub chunk_in_hand : 0 < l.l2 → (c : ℕ) → c < l.l1 * l.l2 → (OpenAt cells (c / l.l2) (c % l.l2) → ⊥)
      → get_or (values l x) c 0 ≡ get_or row c 0
  chunk_in_hand low c h none =
      let i : c / l.l2 < l.l1 = (div-lt_iff_lt-mul {k = l.l2} {x = c} {y = l.l1} low).1 h in
      rw (div-add-mod' c l.l2) at (in_hand (c / l.l2) (c % l.l2) i (mod-lt c low) none)

  -- ---- a chunk-string, and a block, without open losses: all its chunks are those in hand
  pub closed-column : (j : ℕ) → length cells.column ≡ 12 → j < l.l2 → share cells.column cells.lost j ≡ 0
      → line l.nc j l.l2 l.l1 (values l x) ≡ line l.nc j l.l2 l.l1 row
  closed-column j n h s =
      line_same l.nc j l.l2 l.l1 (values l x) row
      (λ t g. rw (add_comm j (t * l.l2)) (in_hand t j g h (λ o. none o.0 o.1.0 o.1.1.1)))
    where
      none : (w : ℕ) → Open cells w → get_or cells.column w 0 ≡ j → ⊥
      none = none_open cells cells.column n j s

  pub closed_block : (i : ℕ) → length cells.block ≡ 12 → i < l.l1 → share cells.block cells.lost i ≡ 0
      → line l.nc (i * l.l2) 1 l.l2 (values l x) ≡ line l.nc (i * l.l2) 1 l.l2 row
  closed_block i n h s =
      line_same l.nc (i * l.l2) 1 l.l2 (values l x) row
      (λ t g. rw (mul-one t) (in_hand i t h g (λ o. none o.0 o.1.0 o.1.1.0)))
    where
      none : (w : ℕ) → Open cells w → get_or cells.block w 0 ≡ i → ⊥
      none = none_open cells cells.block n i s

  -- ---- with one open loss: all its chunks but that of the open cell
  pub single_column : (z : ℕ) → length cells.column ≡ 12 → z < 12 → get_or cells.column z 0 < l.l2
      → SingleAt cells.column cells.lost z
      → (t : ℕ) → t < l.l1 → (t ≡ get_or cells.block z 0 → ⊥)
      → get_or (values l x) (get_or cells.column z 0 + t * l.l2) 0 ≡ get_or row (get_or cells.column z 0 + t * l.l2) 0
  single_column z n b h s t g d =
      rw (add_comm (get_or cells.column z 0) (t * l.l2))
      (in_hand t (get_or cells.column z 0) g h
      (λ o. d (sym o.1.1.0 ∙ ap (λ (w : ℕ). get_or cells.block w 0) (only o.0 o.1.0 o.1.1.1))))
    where
      only : (w : ℕ) → Open cells w → get_or cells.column w 0 ≡ get_or cells.column z 0 → w ≡ z
      only = only_open cells cells.column n z b s

  pub single_block : (z : ℕ) → length cells.block ≡ 12 → z < 12 → get_or cells.block z 0 < l.l1
      → SingleAt cells.block cells.lost z
      → (t : ℕ) → t < l.l2 → (t ≡ get_or cells.column z 0 → ⊥)
      → get_or (values l x) (get_or cells.block z 0 * l.l2 + t * 1) 0
      ≡ get_or row (get_or cells.block z 0 * l.l2 + t * 1) 0
  single_block z n b h s t g d =
      rw (mul-one t)
      (in_hand (get_or cells.block z 0) t h g
      (λ o. d (sym o.1.1.1 ∙ ap (λ (w : ℕ). get_or cells.column w 0) (only o.0 o.1.0 o.1.1.0))))
    where
      only : (w : ℕ) → Open cells w → get_or cells.block w 0 ≡ get_or cells.block z 0 → w ≡ z
      only = only_open cells cells.block n z b s
