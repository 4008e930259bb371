-- The loss states that a row comes through: from the table with which the columns begin to the end they are a path.
-- Assumes nothing.
use Prim.Native.Nat.{ℕ, zero, suc, ◌+◌, ◌-◌, ◌*◌, ◌<◌, ◌≤◌}
use mathlib.Core.Path.{◌≡◌, refl, sym, ap, ◌∙◌}
use mathlib.Core.Logic.{◌⊎◌, inl, inr, ⊎_elim}
use mathlib.Core.List.{List}
use native.Mathlib.Omega.{arith}
use lib.ListN.{length, get_or, drop}
use lib.Seq.{get_or-set_other}
use Rattle.bits.specs.Bits.{digits}
use Rattle.message.specs.declared.Layout.{Layout}
use Rattle.message.proofs.Fields.{field_room}
use Rattle.consistent.specs.Greedy.{losses}
use Rattle.lines.specs.Lines.{values}
use Rattle.lines.proofs.Lines.{string_line, value_low}
use Rattle.found.specs.Found.{Given, Sent}
use Rattle.found.proofs.Found.{sent_parts}
use Rattle.states.specs.States.{each}
use Rattle.cells.specs.Cells.{SameBut}
use Rattle.cells.proofs.Same.{one_chunk}
use Rattle.cells.proofs.State.{same_or_not}
use Rattle.column.specs.Column.{chunk_at, read_from, filled, Cleared, Crosses}
use Rattle.column.specs.declared.Heavy.{Heavy}
use Rattle.marks.specs.Marks.{Path}
use Rattle.tables.specs.Tables.{Undecided, lost_before, Loses, Sound, Under, own_left, LightIn}
use Rattle.tables.specs.declared.Table.{Table}
use Rattle.tables.proofs.Chunk.{chunk_inside, lost-grows, lost-before, chunk-few, chunk-there, chunk-loses}
use Rattle.tables.proofs.Coming.{left_own}
use Rattle.tables.proofs.Making.{reached_not, end-at}

-- ---- the row in hand where the heavy blocks are cleared
-- which heavy block a block is, if it is one
heavy_or_not : (heavy : Heavy) (i n : ℕ)
    → ((s : ℕ) × ((s < n) × (get_or heavy.block s 0 ≡ i))) ⊎ ((s : ℕ) → s < n → get_or heavy.block s 0 ≡ i → ⊥)
heavy_or_not heavy i zero = inr (λ s h. absurd (omega arith))
heavy_or_not heavy i (suc n) =
    ⊎_elim
    (λ e. inl (n, (omega arith, e)))
    (λ d. ⊎_elim
    (λ w. inl (w.0, (omega (arith, w.1.0), w.1.1)))
    (λ none. inr (λ s h e. ⊎_elim (λ q. d (sym (ap (λ (k : ℕ). get_or heavy.block k 0) q) ∙ e)) (λ q. none s (omega arith) e) (same_or_not s n)))
    (heavy_or_not heavy i n))
    (same_or_not (get_or heavy.block n 0) i)

-- the chunks of other blocks stay where those of heavy blocks are made zero
filled-other : (l : Layout) (heavy : Heavy) (j k c : ℕ) (row : List ℕ)
    → ((s : ℕ) → s < k → c ≡ chunk_at l heavy j s → ⊥)
    → get_or (filled l heavy (λ s. 0) j k row) c 0 ≡ get_or row c 0
unfolding filled
filled-other l heavy j zero c row n = refl
filled-other l heavy j (suc k) c row n =
    get_or-set_other (filled l heavy (λ s. 0) j k row) (chunk_at l heavy j k) c 0 0 (n k (omega arith))
    ∙ filled-other l heavy j k c row (λ s h. n s (omega arith))

-- so only chunks that are not decided yet are changed
pub cleared_same : (l : Layout) (heavy : Heavy) (row new : List ℕ) → Cleared l heavy heavy.n row new
    → SameBut l (Undecided heavy 0 0) row new
cleared_same l heavy row new cleared = record { at = λ i c h g. go i c h g (heavy_or_not heavy i heavy.n) }
  where
    go : (i c : ℕ) → i < l.l1 → c < l.l2
        → ((s : ℕ) × ((s < heavy.n) × (get_or heavy.block s 0 ≡ i)))
        ⊎ ((s : ℕ) → s < heavy.n → get_or heavy.block s 0 ≡ i → ⊥)
        → Undecided heavy 0 0 i c ⊎ (get_or new (i * l.l2 + c) 0 ≡ get_or row (i * l.l2 + c) 0)
    go i c h g (inl w) = inl (w.0, (w.1.0, (w.1.1, omega (arith, reached_not 0 0 w.0 (omega arith)))))
    go i c h g (inr none) =
        let turn : c + i * l.l2 ≡ i * l.l2 + c = omega arith in
        inr
        (rw turn at
        (cleared c i g h
        ∙ filled-other l heavy c heavy.n (c + i * l.l2) row
        (λ s k e. none s k (sym (one_chunk l.l2 i c (get_or heavy.block s 0) c g g (omega (arith, e))).0))))

-- ---- a row under the table with which the columns begin, which has no cells
module _ {l : Layout} {numbers y : List ℕ} {heavy : Heavy} {t : Table} {hand x : List ℕ} (given : Given l numbers y)
    (sent : Sent l numbers y x) (sound : Sound l (length y) heavy t) (u : Under l y heavy 0 0 t hand x)
    (none : t.cells.n ≡ 0) where
  -- the losses before the chunk of a heavy block in a column
  abbrev lost : (j s : ℕ) → ℕ
  lost j s = lost_before l y x (chunk_at l heavy j s)

  abbrev own : (j s : ℕ) → ℕ
  own j s = own_left l y heavy x j s

  lost-later : (j k s : ℕ) → j ≤ k → k ≤ l.l2 → s < heavy.n → lost j s ≤ lost k s
  lost-later j k s a b h =
      let room = field_room l.l1 l.l2 (get_or heavy.block s 0) (sound.inside s h) in
      lost-grows l y x sent.0 (chunk_at l heavy j s) (chunk_at l heavy k s) (omega arith) (omega arith)

  -- with those left from there on they are those up to the block's end
  own-all : (j s : ℕ) → j ≤ l.l2 → s < heavy.n → lost j s + own j s ≡ get_or heavy.end s 0
  own-all j s a h = omega (arith, lost-later j l.l2 s a (omega arith) h, end-at u s h)

  own-falls : (j s : ℕ) → j < l.l2 → s < heavy.n → own (j + 1) s ≤ own j s
  own-falls j s a h = omega (arith, lost-later j (j + 1) s (omega arith) (omega arith) h)

  own-ends : (s : ℕ) → s < heavy.n → own l.l2 s ≡ 0
  own-ends s h = omega (arith, end-at u s h)

  -- outside of the heavy blocks the chunks are those in hand
  pub in_hand : LightIn l heavy hand (values l x)
  in_hand i j h k other =
      ⊎_elim
      (⊎_elim
      (λ w. absurd (other w.0 w.1.0 w.1.1.0))
      (λ w. absurd (omega (arith, w.1.0.1, sound.fresh w.0 (omega arith)))))
      (λ e. e)
      (u.decided.at i j h k)

  -- what it does in column j
  module _ (j : ℕ) (column : j < l.l2) where
    module _ (s : ℕ) (h : s < heavy.n) where
      abbrev c : ℕ
      c = chunk_at l heavy j s

      inside : c < l.l1 * l.l2
      inside = chunk_inside l.l1 l.l2 (get_or heavy.block s 0) j (sound.inside s h) column

      lost-here : Loses l y x c (own j s - own (j + 1) s)
      lost-here =
          let next : c + 1 ≡ chunk_at l heavy (j + 1) s = omega arith in
          rw next (omega (arith, own-all j s (omega arith) h, own-all (j + 1) s (omega arith) h, own-falls j s column h))

      place : read_from l heavy (own j) j s - get_or heavy.end s 0 ≡ c * l.nc - lost j s
      place = omega (arith, own-all j s (omega arith) h, lost-before l y x sent.0 c inside)

    crosses : Crosses l y numbers heavy hand j (own j) (own (j + 1)) (values l x)
    crosses =
        record {
          falls = λ s h. own-falls j s column h;
          few =
              λ s h. omega (
                arith,
                chunk-few l y x sent.0 (c s h) (inside s h) (own j s - own (j + 1) s) (lost-here s h),
              );
          starts = λ s h. omega (arith, own-all j s (omega arith) h, lost-before l y x sent.0 (c s h) (inside s h));
          there = λ s h. omega (
            arith,
            own-all j s (omega arith) h,
            own-falls j s column h,
            lost-before l y x sent.0 (c s h) (inside s h),
            chunk-few l y x sent.0 (c s h) (inside s h) (own j s - own (j + 1) s) (lost-here s h),
            chunk-there l y x sent.0 (c s h) (inside s h) (own j s - own (j + 1) s) (lost-here s h),
          );
          small = λ s h. value_low l x sent.0 (c s h);
          loses = λ s h.
              ap (λ (p : ℕ). losses (digits l.nc (get_or (values l x) (c s h) 0)) (drop p y)) (place s h)
              ∙ chunk-loses l y x sent.0 (c s h) (inside s h) (own j s - own (j + 1) s) (lost-here s h);
          others = λ i h other. in_hand i j h column other;
          has_sum = sym (string_line l x sent.0 j column) ∙ (sent_parts given x sent).strings j column;
        }

  -- so they are a path
  pub own-path : Path l y numbers heavy hand (each t.left) (values l x) (own_left l y heavy x)
  own-path = record { starts = left_own u; ends = own-ends; crosses = crosses }
