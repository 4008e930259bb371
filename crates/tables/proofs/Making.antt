-- Loss tables as they are made: what a share of the losses changes, and what that means for the rows under the table. A
-- chunk that is read whole and a chunk that becomes a cell lead from one heavy block to the next, the last heavy block
-- to the next column, and the last column to the cells. Assumes nothing.
use Prim.Native.Nat.{ℕ, zero, suc, ◌+◌, ◌*◌, ◌-◌, ◌<◌, ◌≤◌}
use mathlib.Core.Path.{◌≡◌, refl, sym, ap, ◌∙◌}
use mathlib.Core.Bool.{Bool, true, false, cond}
use mathlib.Core.Logic.{◌⊎◌, inl, inr, ⊎_elim}
use mathlib.Core.List.{List, [], ◌∷◌}
use native.Mathlib.Nat.{mul_assoc}
use native.Mathlib.Omega.{arith}
use borrow.Author.Tests.{lt-ltb, le-ltb}
use lib.Dec.{eqb}
use lib.ListN.{length, get_or, set, take, drop}
use lib.Seq.{get_or-set_same, get_or-set_other, set-set}
use Rattle.bits.specs.Bits.{digits}
use Rattle.bits.proofs.Laws.{lt_or_ge}
use Rattle.message.specs.Layout.{block_bits}
use Rattle.message.specs.declared.Layout.{Layout}
use Rattle.consistent.specs.Greedy.{losses, in_all}
use Rattle.lines.specs.Lines.{values}
use Rattle.cells.specs.Cells.{share, NoSingle, Open, OpenAt, SameBut}
use Rattle.cells.specs.declared.Cells.{Cells}
use Rattle.cells.proofs.Same.{same_sym, same_trans, same_wider}
use Rattle.cells.proofs.Shares.{share-found, all_found}
use Rattle.cells.proofs.State.{same_or_not}
use Rattle.column.specs.Column.{chunk_at}
use Rattle.tables.specs.Tables.{reached, Undecided, Free, lost_before, Loses, Sound, Under}
use Rattle.tables.specs.Tables.{pushed, with_cell, NoneLeft, Whole}
use Rattle.column.specs.declared.Heavy.{Heavy}
use Rattle.tables.specs.declared.Table.{Table}
use Rattle.tables.proofs.Chunk.{chunk_next}

-- ---- how far the heavy blocks have come
pub reached_past : (j h s : ℕ) → s < h → reached j h s ≡ j + 1
reached_past j h s p = rw (lt-ltb s h p) refl

pub reached_not : (j h s : ℕ) → h ≤ s → reached j h s ≡ j
reached_not j h s p = rw (le-ltb s h p) refl

-- a share moves its own heavy block alone
reached-next : (j h s : ℕ) → (s ≡ h → ⊥) → reached j (h + 1) s ≡ reached j h s
reached-next j h s n =
    ⊎_elim
    (λ p. reached_past j (h + 1) s (omega arith) ∙ sym (reached_past j h s p))
    (λ p. let q : h < s = past p in reached_not j (h + 1) s (omega arith) ∙ sym (reached_not j h s p))
    (lt_or_ge s h)
  where
    past : h ≤ s → h < s
    past p = ⊎_elim (λ q. q) (λ q. absurd (n (omega arith))) (lt_or_ge h s)

-- a chunk that is not decided was not where its heavy block had come less far
undecided_less : (heavy : Heavy) (j h k g i c : ℕ)
    → ((s : ℕ) → s < heavy.n → reached k g s ≤ reached j h s)
    → Undecided heavy j h i c → Undecided heavy k g i c
undecided_less heavy j h k g i c less (s, (m, (b, r))) = (s, (m, (b, omega (arith, less s m, r))))

pub undecided_share : (heavy : Heavy) (j h i c : ℕ) → Undecided heavy j (h + 1) i c → Undecided heavy j h i c
undecided_share heavy j h i c =
    undecided_less heavy j (h + 1) j h i c (λ s k. ⊎_elim (here s) (other s) (same_or_not s h))
  where
    here : (s : ℕ) → s ≡ h → reached j h s ≤ reached j (h + 1) s
    here s e = omega (arith, reached_past j (h + 1) s (omega arith), reached_not j h s (omega arith))

    other : (s : ℕ) → (s ≡ h → ⊥) → reached j h s ≤ reached j (h + 1) s
    other s n = omega (arith, reached-next j h s n)

-- the start of a column is the end of the one before
reached-end : (j n s : ℕ) → s < n → reached (j + 1) 0 s ≡ reached j n s
reached-end j n s k = reached_not (j + 1) 0 s (omega arith) ∙ sym (reached_past j n s k)

pub undecided_end : (heavy : Heavy) (j i c : ℕ) → Undecided heavy (j + 1) 0 i c → Undecided heavy j heavy.n i c
undecided_end heavy j i c =
    undecided_less heavy (j + 1) 0 j heavy.n i c (λ s k. omega (arith, reached-end j heavy.n s k))

pub undecided_start : (heavy : Heavy) (j i c : ℕ) → Undecided heavy j heavy.n i c → Undecided heavy (j + 1) 0 i c
undecided_start heavy j i c =
    undecided_less heavy j heavy.n (j + 1) 0 i c (λ s k. omega (arith, reached-end j heavy.n s k))

pub undecided_column : (heavy : Heavy) (j i c : ℕ) → Undecided heavy (j + 1) 0 i c → Undecided heavy j 0 i c
undecided_column heavy j i c =
    undecided_less heavy (j + 1) 0 j 0 i c
    (λ s k. omega (arith, reached_not j 0 s (omega arith), reached_not (j + 1) 0 s (omega arith)))

-- ---- losses that move from what is left to a cell
-- those of a key and those of all
share-set : (keys lost : List ℕ) (key z a : ℕ) → z < length keys → z < length lost → a ≤ get_or lost z 0
    → share keys (set lost z (get_or lost z 0 - a)) key + cond (eqb (get_or keys z 0) key) a 0 ≡ share keys lost key
share-set keys lost key z a h g f =
    let e = get_or-set_same lost z (get_or lost z 0 - a) 0 g in
    let m = share-found keys (set lost z (get_or lost z 0 - a)) key z h in
    go (eqb (get_or keys z 0) key) (rw (set-set lost z (get_or lost z 0 - a) 0, e) at m) (share-found keys lost key z h)
  where
    go : (t : Bool)
        → share keys (set lost z 0) key + cond t (get_or lost z 0 - a) 0 ≡ share keys (set lost z (get_or lost z 0 - a)) key
        → share keys (set lost z 0) key + cond t (get_or lost z 0) 0 ≡ share keys lost key
        → share keys (set lost z (get_or lost z 0 - a)) key + cond t a 0 ≡ share keys lost key
    go true p q = omega arith
    go false p q = omega arith

all_set : (lost : List ℕ) (z a : ℕ) → z < length lost → a ≤ get_or lost z 0
    → in_all (set lost z (get_or lost z 0 - a)) + a ≡ in_all lost
all_set lost z a g f =
    let e = get_or-set_same lost z (get_or lost z 0 - a) 0 g in
    let m = rw (set-set lost z (get_or lost z 0 - a) 0, e) at (all_found (set lost z (get_or lost z 0 - a)) z) in
    omega (arith, m, all_found lost z)

-- where there are none
share_zero : (keys lost : List ℕ) (key : ℕ) → NoneLeft lost → share keys lost key ≡ 0
unfolding share
share_zero [] lost key n = refl
share_zero (k ∷ keys) [] key n = refl
share_zero (k ∷ keys) (a ∷ lost) key n = go (eqb k key) (n 0) (share_zero keys lost key (λ z. n (suc z)))
  where
    go : (t : Bool) → a ≡ 0 → share keys lost key ≡ 0 → cond t a 0 + share keys lost key ≡ 0
    go true e f = omega arith
    go false e f = omega arith

-- a cell that had none
share-pushed : (keys lost : List ℕ) (key z k a : ℕ) → z < length keys → z < length lost → get_or lost z 0 ≡ 0
    → share (set keys z k) (set lost z a) key ≡ share keys lost key + cond (eqb k key) a 0
unfolding share
share-pushed [] lost key z k a h g f = absurd (omega arith)
share-pushed (n ∷ keys) [] key z k a h g f = absurd (omega arith)
share-pushed (n ∷ keys) (b ∷ lost) key zero k a h g f = go (eqb n key) (eqb k key)
  where
    go : (t u : Bool) → cond u a 0 + share keys lost key ≡ cond t b 0 + share keys lost key + cond u a 0
    go true u = omega arith
    go false u = omega arith
share-pushed (n ∷ keys) (b ∷ lost) key (suc z) k a h g f =
    omega (arith, share-pushed keys lost key z k a (omega arith) (omega arith) f)

-- ---- one more cell
-- there is room for twelve cells
pub record Twelve (cells : Cells) : Type 0 where
  pub blocks : length cells.block ≡ 12
  pub columns : length cells.column ≡ 12
  pub losts : length cells.lost ≡ 12
  pub places : length cells.place ≡ 12

-- P holds of cell z
abbrev At : (P : (block column lost place : ℕ) → Type 0) → Cells → ℕ → Type 0
At P cells z = P (get_or cells.block z 0) (get_or cells.column z 0) (get_or cells.lost z 0) (get_or cells.place z 0)

module _ (cells : Cells) (twelve : Twelve cells) (room : cells.n < 12) (unused : get_or cells.lost cells.n 0 ≡ 0)
    (i j a place : ℕ) where
  -- the cells that were open are others, and are so still
  open_kept : (z : ℕ) → Open cells z → (z ≡ cells.n → ⊥) × Open (pushed cells i j a place) z
  open_kept z o =
      let n : (z ≡ cells.n → ⊥) = λ e. absurd (omega (arith, rw e at o.1)) in
      (n, (o.0, rw (get_or-set_other cells.lost cells.n z a 0 n) o.1))

  -- and beside the new cell no others are
  open-old : (z : ℕ) → (z ≡ cells.n → ⊥) → Open (pushed cells i j a place) z → Open cells z
  open-old z n o = (o.0, rw (get_or-set_other cells.lost cells.n z a 0 n) at o.1)

  at-kept : (b c : ℕ) → OpenAt cells b c → OpenAt (pushed cells i j a place) b c
  at-kept b c (z, (o, (p, q))) =
      let k = open_kept z o in
      let in_block : get_or (set cells.block cells.n i) z 0 ≡ b =
      get_or-set_other cells.block cells.n z i 0 k.0 ∙ p in
      let in-column : get_or (set cells.column cells.n j) z 0 ≡ c =
      get_or-set_other cells.column cells.n z j 0 k.0 ∙ q in
      (z, (k.1, (in_block, in-column)))

  -- an open cell is one of those or the new one
  at_old : (b c : ℕ) → OpenAt (pushed cells i j a place) b c → OpenAt cells b c ⊎ ((i ≡ b) × (j ≡ c))
  at_old b c (z, (o, (p, q))) = ⊎_elim here other (same_or_not z cells.n)
    where
      here : z ≡ cells.n → OpenAt cells b c ⊎ ((i ≡ b) × (j ≡ c))
      here e =
          inr (
            sym (get_or-set_same cells.block cells.n i 0 (omega arith)) ∙ rw e at p,
            sym (get_or-set_same cells.column cells.n j 0 (omega arith)) ∙ rw e at q,
          )

      other : (z ≡ cells.n → ⊥) → OpenAt cells b c ⊎ ((i ≡ b) × (j ≡ c))
      other n =
          let in_block = sym (get_or-set_other cells.block cells.n z i 0 n) ∙ p in
          let in-column = sym (get_or-set_other cells.column cells.n z j 0 n) ∙ q in
          inl (z, (open-old z n o, (in_block, in-column)))

  -- the new cell is open
  at_new : 0 < a → OpenAt (pushed cells i j a place) i j
  at_new p = (
    cells.n,
    (
      (room, rw (get_or-set_same cells.lost cells.n a 0 (omega arith)) p),
      (
        get_or-set_same cells.block cells.n i 0 (omega arith),
        get_or-set_same cells.column cells.n j 0 (omega arith),
      ),
    ),
  )

  -- what holds of the other cells and of the new one holds of each
  each_pushed : (P : (block column lost place : ℕ) → Type 0) → ((z : ℕ) → Open cells z → At P cells z) → P i j a place
      → (z : ℕ) → Open (pushed cells i j a place) z → At P (pushed cells i j a place) z
  each_pushed P old new z o = ⊎_elim here other (same_or_not z cells.n)
    where
      here : z ≡ cells.n → At P (pushed cells i j a place) z
      here e =
          rw (
            e,
            get_or-set_same cells.block cells.n i 0 (omega arith),
            get_or-set_same cells.column cells.n j 0 (omega arith),
            get_or-set_same cells.lost cells.n a 0 (omega arith),
            get_or-set_same cells.place cells.n place 0 (omega arith),
          ) new

      other : (z ≡ cells.n → ⊥) → At P (pushed cells i j a place) z
      other n =
          rw (
            get_or-set_other cells.block cells.n z i 0 n,
            get_or-set_other cells.column cells.n z j 0 n,
            get_or-set_other cells.lost cells.n z a 0 n,
            get_or-set_other cells.place cells.n z place 0 n,
          ) (old z (open-old z n o))

-- ---- a share: the rows under the table
module _ {l : Layout} {y : List ℕ} {heavy : Heavy} {j h : ℕ} {t : Table} {hand x : List ℕ}
    (u : Under l y heavy j h t hand x) (some : h < heavy.n) where
  -- the losses before the chunk that is shared out to are those of the block's end without those left
  pub shift_at : lost_before l y x (chunk_at l heavy j h) + get_or t.left h 0 ≡ get_or heavy.end h 0
  shift_at =
      ap (λ (c : ℕ). lost_before l y x (chunk_at l heavy c h) + get_or t.left h 0) (sym (reached_not j h h (omega arith)))
      ∙ u.shifts h some

  -- after the share of a losses as many fewer are left
  shifts-next : (left : List ℕ) (a : ℕ) → Loses l y x (chunk_at l heavy j h) a → get_or left h 0 + a ≡ get_or t.left h 0
      → ((s : ℕ) → (s ≡ h → ⊥) → get_or left s 0 ≡ get_or t.left s 0)
      → (s : ℕ) → s < heavy.n
      → lost_before l y x (chunk_at l heavy (reached j (h + 1) s) s) + get_or left s 0 ≡ get_or heavy.end s 0
  shifts-next left a own less others s k = ⊎_elim here other (same_or_not s h)
    where
      next : chunk_at l heavy (reached j (h + 1) h) h ≡ chunk_at l heavy j h + 1
      next = omega (arith, reached_past j (h + 1) h (omega arith))

      here : s ≡ h → lost_before l y x (chunk_at l heavy (reached j (h + 1) s) s) + get_or left s 0 ≡ get_or heavy.end s 0
      here e = rw (e, next) (omega (arith, own, less, shift_at))

      other : (s ≡ h → ⊥)
          → lost_before l y x (chunk_at l heavy (reached j (h + 1) s) s) + get_or left s 0 ≡ get_or heavy.end s 0
      other n = rw (reached-next j h s n, others s n) (u.shifts s k)

  -- the chunk that is shared out to is decided, and no other
  undecided-next : (i c : ℕ) → Undecided heavy j h i c
      → Undecided heavy j (h + 1) i c ⊎ ((get_or heavy.block h 0 ≡ i) × (j ≡ c))
  undecided-next i c (s, (k, (b, r))) = ⊎_elim here other (same_or_not s h)
    where
      other : (s ≡ h → ⊥) → Undecided heavy j (h + 1) i c ⊎ ((get_or heavy.block h 0 ≡ i) × (j ≡ c))
      other n = inl (s, (k, (b, omega (arith, reached-next j h s n))))

      at : s ≡ h → (j < c) ⊎ (c ≤ j) → Undecided heavy j (h + 1) i c ⊎ ((get_or heavy.block h 0 ≡ i) × (j ≡ c))
      at e (inl m) = inl (s, (k, (b, omega (arith, reached_past j (h + 1) s (omega arith)))))
      at e (inr m) = inr (rw e at b, omega (arith, reached_not j h s (omega arith)))

      here : s ≡ h → Undecided heavy j (h + 1) i c ⊎ ((get_or heavy.block h 0 ≡ i) × (j ≡ c))
      here e = at e (lt_or_ge j c)

  -- a chunk without a loss is read
  pub under-read : (v : ℕ) → Loses l y x (chunk_at l heavy j h) 0 → get_or (values l x) (chunk_at l heavy j h) 0 ≡ v
      → chunk_at l heavy j h < length hand → Under l y heavy j (h + 1) t (set hand (chunk_at l heavy j h) v) x
  under-read v own is in_row =
      record {
        ends = u.ends;
        shifts = shifts-next t.left 0 own (omega arith) (λ s n. refl);
        decided = record {
          at = λ i c p q.
              ⊎_elim
              (⊎_elim (λ w. fresh i c (undecided-next i c w)) (λ o. inl (inr o)))
              (λ e. inr (kept (i * l.l2 + c) e))
              (u.decided.at i c p q);
        };
        loses = u.loses;
      }
    where
      new : List ℕ
      new = set hand (chunk_at l heavy j h) v

      there : (k : ℕ) → k ≡ chunk_at l heavy j h → get_or (values l x) k 0 ≡ get_or new k 0
      there k e = rw e (is ∙ sym (get_or-set_same hand (chunk_at l heavy j h) v 0 in_row))

      kept : (k : ℕ) → get_or (values l x) k 0 ≡ get_or hand k 0 → get_or (values l x) k 0 ≡ get_or new k 0
      kept k e =
          ⊎_elim (there k) (λ n. e ∙ sym (get_or-set_other hand (chunk_at l heavy j h) k v 0 n))
          (same_or_not k (chunk_at l heavy j h))

      fresh : (i c : ℕ) → Undecided heavy j (h + 1) i c ⊎ ((get_or heavy.block h 0 ≡ i) × (j ≡ c))
          → Free heavy j (h + 1) t.cells i c ⊎ (get_or (values l x) (i * l.l2 + c) 0 ≡ get_or new (i * l.l2 + c) 0)
      fresh i c (inl w) = inl (inl w)
      fresh i c (inr w) = inr (there (i * l.l2 + c) (rw (w.0, w.1) refl))

  -- a chunk with losses becomes a cell
  pub under_cell : (a place : ℕ) → Loses l y x (chunk_at l heavy j h) a → 0 < a → a ≤ get_or t.left h 0
      → h < length t.left
      → Twelve t.cells → t.cells.n < 12 → get_or t.cells.lost t.cells.n 0 ≡ 0
      → losses (digits l.nc (get_or (values l x) (chunk_at l heavy j h) 0)) (drop place y) ≡ a
      → Under l y heavy j (h + 1) (with_cell t h (get_or heavy.block h 0) j a place) hand x
  under_cell a place own pos less in_left twelve room unused is =
      record {
        ends = u.ends;
        shifts = shifts-next left a own (omega (arith, get_or-set_same t.left h (get_or t.left h 0 - a) 0 in_left))
            (λ s n. get_or-set_other t.left h s (get_or t.left h 0 - a) 0 n);
        decided = same_wider
            (λ i c p q. ⊎_elim
            (λ w. fresh i c (undecided-next i c w))
            (λ o. inr (at-kept t.cells twelve room unused block j a place i c o)))
            u.decided;
        loses = each_pushed t.cells twelve room unused block j a place
            (λ b c lost p. losses (digits l.nc (get_or (values l x) (b * l.l2 + c) 0)) (drop p y) ≡ lost) u.loses is;
      }
    where
      left : List ℕ
      left = set t.left h (get_or t.left h 0 - a)

      block : ℕ
      block = get_or heavy.block h 0

      fresh : (i c : ℕ) → Undecided heavy j (h + 1) i c ⊎ ((block ≡ i) × (j ≡ c))
          → Free heavy j (h + 1) (pushed t.cells block j a place) i c
      fresh i c (inl w) = inl w
      fresh i c (inr w) = inr (rw (← w.0, ← w.1) (at_new t.cells twelve room unused block j a place pos))

-- ---- a share: the chunks that are decided stay so
module _ (heavy : Heavy) (j h : ℕ) (some : h < heavy.n) where
  -- the chunk that is shared out to was not decided
  pub undecided_here : Undecided heavy j h (get_or heavy.block h 0) j
  undecided_here = (h, (some, (refl, omega (arith, reached_not j h h (omega arith)))))

  pub fewer_cell : (cells : Cells) → Twelve cells → cells.n < 12 → get_or cells.lost cells.n 0 ≡ 0
      → (a place i c : ℕ) → Free heavy j (h + 1) (pushed cells (get_or heavy.block h 0) j a place) i c
      → Free heavy j h cells i c
  fewer_cell cells twelve room unused a place i c (inl w) = inl (undecided_share heavy j h i c w)
  fewer_cell cells twelve room unused a place i c (inr o) =
      ⊎_elim inr (λ e. inl (rw (← e.0, ← e.1) undecided_here))
      (at_old cells twelve room unused (get_or heavy.block h 0) j a place i c o)

-- ---- a share: what holds of the table
module _ {l : Layout} {m : ℕ} {heavy : Heavy} {t : Table} (s : Sound l m heavy t) where
  module _ (j h a place : ℕ) (some : h < heavy.n) (less : a ≤ get_or t.left h 0) (in_left : length t.left ≡ 6)
      (in_block : length heavy.block ≡ 6) where
    -- there is room for a cell
    pub room_cell : 0 < a → t.cells.n < 12
    room_cell p = omega (arith, all_set t.left h a (omega (arith, s.few)) less, s.room)

    pub sound_cell : 0 < a → j < l.l2 → place ≤ m → Twelve t.cells
        → Sound l m heavy (with_cell t h (get_or heavy.block h 0) j a place)
    sound_cell p inside within twelve =
        record {
          few = s.few;
          inside = s.inside;
          ascending = s.ascending;
          placed = each_pushed t.cells twelve room unused block j a place
              (λ b c lost q. (b < l.l1) × ((c < l.l2) × (q ≤ m))) s.placed (s.inside h some, (inside, within));
          room = omega (arith, all_set t.left h a (omega (arith, s.few)) less, s.room);
          fresh =
              λ z k. get_or-set_other t.cells.lost t.cells.n z a 0 (λ e. absurd (omega arith))
              ∙ s.fresh z (omega arith);
          spare =
              λ r k. get_or-set_other t.left h r (get_or t.left h 0 - a) 0 (λ e. absurd (omega arith)) ∙ s.spare r k;
          not_one = λ i e. s.not_one i (omega (arith, fewer i, more i));
        }
      where
        block : ℕ
        block = get_or heavy.block h 0

        room : t.cells.n < 12
        room = room_cell p

        unused : get_or t.cells.lost t.cells.n 0 ≡ 0
        unused = s.fresh t.cells.n (omega arith)

        -- what block i has left falls by what its cells gain
        fewer : (i : ℕ)
            → share heavy.block (set t.left h (get_or t.left h 0 - a)) i + cond (eqb block i) a 0
            ≡ share heavy.block t.left i
        fewer i = share-set heavy.block t.left i h a (omega (arith, s.few)) (omega (arith, s.few)) less

        more : (i : ℕ)
            → share (set t.cells.block t.cells.n block) (set t.cells.lost t.cells.n a) i
            ≡ share t.cells.block t.cells.lost i + cond (eqb block i) a 0
        more i =
            share-pushed t.cells.block t.cells.lost i t.cells.n block a (omega (arith, room))
            (omega (arith, room))
            unused

-- ---- the end of a column, and of the last
module _ {l : Layout} {y : List ℕ} {heavy : Heavy} {t : Table} {hand x : List ℕ} where
  -- once all heavy blocks have their share in column j, the next can be shared out
  pub next-column : {j : ℕ} → Under l y heavy j heavy.n t hand x → Under l y heavy (j + 1) 0 t hand x
  next-column {j} u =
      record {
        ends = u.ends;
        shifts = λ s k. rw (reached-end j heavy.n s k) (u.shifts s k);
        decided = same_wider (λ i c p q. ⊎_elim (λ w. inl (undecided_start heavy j i c w)) inr) u.decided;
        loses = u.loses;
      }

  -- the rows under a state depend on the row in hand only where its chunks are decided
  pub under_same : {other : List ℕ} {j h : ℕ} → SameBut l (Free heavy j h t.cells) hand other
      → Under l y heavy j h t hand x → Under l y heavy j h t other x
  under_same s u =
      record {
        ends = u.ends;
        shifts = u.shifts;
        decided = same_trans (same_sym s) u.decided;
        loses = u.loses;
      }

  -- the losses of a heavy block's end
  pub end-at : {j h : ℕ} → Under l y heavy j h t hand x → (s : ℕ) → s < heavy.n
      → lost_before l y x (chunk_at l heavy l.l2 s) ≡ get_or heavy.end s 0
  end-at u s k =
      let b = get_or heavy.block s 0 in
      let e : (b * l.l2 + l.l2) * l.nc ≡ (b + 1) * block_bits l =
      ap (λ (c : ℕ). c * l.nc) (sym (chunk_next b l.l2)) ∙ mul_assoc (b + 1) l.l2 l.nc
      in
      ap (λ (n : ℕ). losses (take n x) y) e ∙ u.ends s k

  -- after the last column no losses are left, and all chunks but the cells are decided
  pub whole : {m : ℕ} → Sound l m heavy t → Under l y heavy l.l2 0 t hand x → Whole l y t hand x
  whole sound u = (
    λ s. ⊎_elim (used-up s) (sound.spare s) (lt_or_ge s heavy.n),
    record {
      decided = same_wider (λ i c p q. ⊎_elim (λ w. absurd (past c q w)) (λ o. o)) u.decided;
      loses = u.loses;
    },
  )
    where
      used-up : (s : ℕ) → s < heavy.n → get_or t.left s 0 ≡ 0
      used-up s k =
          let e = rw (reached_not l.l2 0 s (omega arith)) at (u.shifts s k) in
          omega (arith, e, end-at u s k)

      past : {i : ℕ} (c : ℕ) → c < l.l2 → Undecided heavy l.l2 0 i c → ⊥
      past c q w = omega (arith, w.1.1.1, reached_not l.l2 0 w.0 (omega arith))

-- where no losses are left, no block has exactly one in its cells
pub no_single : {l : Layout} {m : ℕ} {heavy : Heavy} {t : Table} → Sound l m heavy t → NoneLeft t.left
    → NoSingle t.cells.block t.cells.lost
no_single {l} {m} {heavy} {t} s none i e = s.not_one i (omega (arith, share_zero heavy.block t.left i none))
