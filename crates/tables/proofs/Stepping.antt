-- Going over a column block by block, where it is given how much each heavy block has left after it: each share is what
-- is left without that. Rests on what sharing out answers. Assumes nothing.
use Prim.Native.Nat.{ℕ, ◌+◌, ◌<◌, ◌≤◌}
use mathlib.Core.Path.{◌≡◌, sym, ◌∙◌}
use mathlib.Core.Bool.{Bool, true, false, false≢true}
use mathlib.Core.Logic.{inl, inr, ⊎_elim}
use mathlib.Core.List.{List}
use native.Mathlib.Omega.{arith}
use lib.ListN.{length, get_or}
use Rattle.rows.specs.Order.{Row}
use Rattle.message.specs.Layout.{row_bits}
use Rattle.message.specs.declared.Layout.{Layout}
use Rattle.message.proofs.Fields.{field_room}
use Rattle.cells.specs.Cells.{SameBut}
use Rattle.cells.proofs.Same.{same_refl, same_trans, same_wider}
use Rattle.cells.proofs.State.{same_or_not}
use Rattle.column.specs.Column.{chunk_at}
use Rattle.column.specs.declared.Heavy.{Heavy}
use Rattle.tables.specs.Tables.{Free, lost_before, Loses, Sound, Under, own_left, Shared, Stepped}
use Rattle.tables.specs.declared.Table.{Table}
use Rattle.tables.proofs.Chunk.{lost-grows}
use Rattle.tables.proofs.Making.{undecided_end, undecided_column, shift_at, end-at, next-column}

-- after column j each heavy block has so much left of the row's own losses
abbrev pub HasNext : Layout → (y : List ℕ) → Heavy → (j : ℕ) (next : ℕ → ℕ) (x : List ℕ) → Type 0
HasNext l y heavy j next x = (s : ℕ) → s < heavy.n → own_left l y heavy x (j + 1) s ≡ next s

-- the table in which the first h heavy blocks have their share in column j, and the row in hand with it
pub record Halfway (l : Layout) (y : List ℕ) (heavy : Heavy) (j h : ℕ) (next : ℕ → ℕ) (t : Table) (hand : List ℕ)
    (now : Table) (held : List ℕ) : Type 0 where
  pub some : h ≤ heavy.n
  pub sound : Sound l (length y) heavy now
  pub has_left : (s : ℕ) → s < h → get_or now.left s 0 ≡ next s
  pub under : (x : List ℕ) → Row (row_bits l) x → Under l y heavy j 0 t hand x → HasNext l y heavy j next x
      → Under l y heavy j h now held x
  pub fewer : (i c : ℕ) → Free heavy j h now.cells i c → Free heavy j 0 t.cells i c
  pub same : SameBut l (Free heavy j 0 t.cells) hand held

-- ---- what a row has left of its own losses after its chunk
module _ {l : Layout} {y : List ℕ} {heavy : Heavy} {j h : ℕ} {t : Table} {hand x : List ℕ} (row : Row (row_bits l) x)
    (u : Under l y heavy j h t hand x) (some : h < heavy.n) (block : get_or heavy.block h 0 < l.l1)
    (column : j < l.l2) where
  left_after : lost_before l y x (chunk_at l heavy j h + 1) + own_left l y heavy x (j + 1) h ≡ get_or heavy.end h 0
  left_after =
      let f = field_room l.l1 l.l2 (get_or heavy.block h 0) block in
      let g = lost-grows l y x row (chunk_at l heavy j h + 1) (chunk_at l heavy l.l2 h) (omega arith) f in
      let n : chunk_at l heavy (j + 1) h ≡ chunk_at l heavy j h + 1 = omega arith in
      rw n (omega (arith, g, end-at u h some))

  -- it is no more than the table has left
  own-less : own_left l y heavy x (j + 1) h ≤ get_or t.left h 0
  own-less =
      let f = field_room l.l1 l.l2 (get_or heavy.block h 0) block in
      let g = lost-grows l y x row (chunk_at l heavy j h) (chunk_at l heavy j h + 1) (omega arith) (omega (arith, f)) in
      omega (arith, g, left_after, shift_at u some)

  -- and the chunk loses what it falls by
  own-loses : (a : ℕ) → own_left l y heavy x (j + 1) h + a ≡ get_or t.left h 0 → Loses l y x (chunk_at l heavy j h) a
  own-loses a e = omega (arith, left_after, shift_at u some)

module _ {l : Layout} {y : List ℕ} {heavy : Heavy} {j : ℕ} {next : ℕ → ℕ} {t : Table} {hand : List ℕ} where
  -- at first no block has its share
  pub halfway_start : Sound l (length y) heavy t → Halfway l y heavy j 0 next t hand t hand
  halfway_start sound =
      record {
        some = omega arith;
        sound = sound;
        has_left = λ s h. absurd (omega arith);
        under = λ x row u own. u;
        fewer = λ i c f. f;
        same = same_refl;
      }

  -- no row under the table has so much left
  pub stepped_none : {ok : Bool} {new : Table} {held : List ℕ} → ok ≡ false → new ≡ t → Sound l (length y) heavy t
      → SameBut l (Free heavy j 0 t.cells) hand held
      → ((x : List ℕ) → Row (row_bits l) x → Under l y heavy j 0 t hand x → HasNext l y heavy j next x → ⊥)
      → Stepped l y heavy j next t hand ok new held
  stepped_none fails is sound same none =
      record {
        sound = rw is sound;
        has_left = λ e. absurd (false≢true (sym fails ∙ e));
        under = λ x row u own. absurd (none x row u own);
        fewer = λ i c. ⊎_elim (λ w. inl (undecided_column heavy j i c w)) (λ o. inr (rw is at o));
        same = same;
      }

  module _ {h : ℕ} {now : Table} {held : List ℕ} (half : Halfway l y heavy j h next t hand now held) where
    -- once all have, the column is left
    pub halfway_end : {ok : Bool} → ok ≡ true → heavy.n ≤ h → Stepped l y heavy j next t hand ok now held
    halfway_end went e =
        let end : h ≡ heavy.n = omega (arith, half.some) in
        record {
          sound = half.sound;
          has_left = λ q s k. half.has_left s (omega arith);
          under = λ x row u own. (went, next-column (rw end at (half.under x row u own)));
          fewer = λ i c f. half.fewer i c (rw end (⊎_elim (λ w. inl (undecided_end heavy j i c w)) inr f));
          same = half.same;
        }

    module _ (some : h < heavy.n) (column : j < l.l2) where
      -- the next one has no more left than is asked for
      pub too_few : get_or now.left h 0 < next h → (x : List ℕ) → Row (row_bits l) x → Under l y heavy j 0 t hand x
          → HasNext l y heavy j next x → ⊥
      too_few few x row u own =
          omega (arith, own-less row (half.under x row u own) some (half.sound.inside h some) column, own h some)

      module _ {a : ℕ} (less : next h + a ≡ get_or now.left h 0) {ok : Bool} {new : Table} {after : List ℕ}
          (shared : Shared l y heavy j h a now held ok new after) where
        here : (x : List ℕ) → Row (row_bits l) x → Under l y heavy j 0 t hand x → HasNext l y heavy j next x
            → (ok ≡ true) × Under l y heavy j (h + 1) new after x
        here x row u own =
            let v = half.under x row u own in
            let loses = own-loses row v some (half.sound.inside h some) column a (omega (arith, less, own h some)) in
            shared.under x row v loses

        -- its chunk cannot be read so
        pub share_failed : ok ≡ false → (x : List ℕ) → Row (row_bits l) x → Under l y heavy j 0 t hand x
            → HasNext l y heavy j next x → ⊥
        share_failed fails x row u own = false≢true (sym fails ∙ (here x row u own).0)

        -- or has its share
        pub halfway_next : ok ≡ true → Halfway l y heavy j (h + 1) next t hand new after
        halfway_next went =
            record {
              some = omega arith;
              sound = shared.sound;
              has_left = λ s k. ⊎_elim
                  (λ e. rw e (omega (arith, shared.falls went, less)))
                  (λ n. shared.others s n ∙ half.has_left s (omega arith))
                  (same_or_not s h);
              under = λ x row u own. (here x row u own).1;
              fewer = λ i c f. half.fewer i c (shared.fewer i c f);
              same = same_trans half.same (same_wider (λ i c p q. half.fewer i c) shared.same);
            }
