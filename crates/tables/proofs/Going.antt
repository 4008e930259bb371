-- Going from column to column: the rows that lose a bit in a column are looked for there, and the others are those
-- under the table after it. So what finds the rows under the table in hand finds, with what was found before, those
-- under the first. Rests on the laws of steps (found). Assumes nothing.
use Prim.Native.Nat.{ℕ, ◌+◌, ◌<◌, ◌≤◌}
use mathlib.Core.Path.{◌≡◌, sym, subst, ◌∙◌}
use mathlib.Core.Bool.{Bool, true, false, false≢true}
use mathlib.Core.Logic.{inl, inr, ⊎_elim}
use mathlib.Core.List.{List}
use native.Mathlib.Omega.{arith}
use lib.ListN.{length}
use Rattle.rows.specs.Slice.{rows_of_slice}
use Rattle.message.specs.Layout.{row_bits}
use Rattle.message.specs.declared.Layout.{Layout}
use Rattle.cells.specs.Cells.{SameBut}
use Rattle.cells.proofs.Same.{same_trans, same_wider}
use Rattle.found.specs.Found.{Sent, Holding, Grown}
use Rattle.found.proofs.Found.{grown_length, grown_holding, grown_none, grown_nothing, grown_then, grown_weaken}
use Rattle.states.specs.States.{each, state_of}
use Rattle.states.specs.declared.Shape.{Shape}
use Rattle.states.proofs.States.{state-same}
use Rattle.column.specs.Column.{Light, Crosses, apart_in}
use Rattle.column.specs.declared.Heavy.{Heavy}
use Rattle.sums.specs.Sums.{Holds}
use Rattle.marks.specs.Marks.{Covers}
use Rattle.tables.specs.Tables.{Free, Sound, Whole, own_left, ShapeOf, IsMark, Looked, NearKnown, UnderMarks}
use Rattle.tables.specs.Tables.{Stepped}
use Rattle.tables.specs.declared.Table.{Table}
use Rattle.tables.proofs.Making.{under_same, whole}
use Rattle.tables.proofs.Coming.{left_own, near-stays, comes-near, loses_or_not, crossed, under_next}
use Rattle.tables.proofs.Coming.{shape_next, state-next, looked_next}

-- in column c with the table now and the row in hand: what finds the rows under it, from the list slice as it is, finds
-- those of P from the start. Of the row in hand only what could be any at the start has changed
pub record Going (l : Layout) (y totals counts numbers : List ℕ) (heavy : Heavy) (shape : Shape)
    (known marks rests z : List ℕ) (room cap : ℕ) (P : List ℕ → Type 0) (free : (i j : ℕ) → Type 0) (first entry : List ℕ) (d : ℕ)
    (m : Bool) (top : ℕ) (hand list : List ℕ) (now : Table) (sets : List ℕ) (apart e : ℕ) (o : Bool) (c : ℕ)
    : Type 0 where
  pub inside : c ≤ l.l2
  pub holding : Holding l numbers y cap list e o
  pub long : length list ≡ length entry
  pub wide : length hand ≡ length first
  pub same : SameBut l free first hand
  pub fewer : (i j : ℕ) → Free heavy c 0 now.cells i j → free i j
  pub sound : Sound l (length y) heavy now
  pub shaped : ShapeOf heavy shape now.left
  pub at_top : state_of shape (each now.left) ≡ top
  pub looked : Looked l y totals counts known z apart c
  pub near : NearKnown l numbers y (rows_of_slice (row_bits l) list e o) z room
  pub joins : (exit : List ℕ) (f : ℕ) (q : Bool)
      → Grown l numbers y cap (UnderMarks l y numbers heavy shape known marks rests z sets apart c now hand) list e o exit f q
      → Grown l numbers y cap P entry d m exit f q

module _ {l : Layout} {y totals counts numbers : List ℕ} {heavy : Heavy} {shape : Shape} {known marks rests z : List ℕ}
    {room cap : ℕ} {P : List ℕ → Type 0} {free : (i j : ℕ) → Type 0} {first entry : List ℕ} {d : ℕ} {m : Bool} {top : ℕ}
    {hand list : List ℕ} {now : Table} {sets : List ℕ} {apart e : ℕ} {o : Bool} {c : ℕ}
    (going : Going l y totals counts numbers heavy shape known marks rests z room cap P free first entry d m top hand list
    now sets apart e o c) where
  -- what changes only what is not decided in the table changes only what could be any at the start
  pub going_same : {after : List ℕ} → SameBut l (Free heavy c 0 now.cells) hand after → SameBut l free first after
  going_same s = same_trans going.same (same_wider (λ i j p q. going.fewer i j) s)

  -- the state's mark leaves no room for a row that is not known
  pub going_near : (mark : ℕ) → IsMark shape marks c (state_of shape (each now.left)) mark
      → ((n : ℕ) → Covers mark n → apart + n < room) → Grown l numbers y cap P entry d m list e o
  going_near mark is low =
      going.joins list e o
      (grown_none going.holding
      (λ x sent u. going.near x sent (comes-near u.1 c apart mark room going.inside u.1.within (own-mark x u) low)))
    where
      own-mark : (x : List ℕ) → UnderMarks l y numbers heavy shape known marks rests z sets apart c now hand x
          → IsMark shape marks c (state_of shape (own_left l y heavy x c)) mark
      own-mark x u =
          let of = going.shaped in
          subst (λ (v : ℕ). IsMark shape marks c v mark)
          (sym (state-same (each shape.size) (own_left l y heavy x c) (each now.left) shape.n
          (λ s h. left_own u.0 s (omega (arith, of.blocks)))))
          is

  -- after the last column
  pub going_end : l.l2 ≤ c → {exit : List ℕ} {f : ℕ} {q : Bool}
      → Grown l numbers y cap (Whole l y now hand) list e o exit f q → Grown l numbers y cap P entry d m exit f q
  going_end past {exit} {f} {q} g =
      let end : c ≡ l.l2 = omega (arith, going.inside) in
      going.joins exit f q (grown_weaken (λ x sent u. whole going.sound (rw end at u.0)) g)

  -- the rows that lose a bit in the column are found
  module _ (column : c < l.l2) {mid : List ℕ} {f : ℕ} {q : Bool}
      (g : Grown l numbers y cap (λ x. UnderMarks l y numbers heavy shape known marks rests z sets apart c now hand x
      × (state_of shape (own_left l y heavy x (c + 1)) < state_of shape (each now.left))) list e o mid f q) {r : ℕ}
      (crossing : (row vs : List ℕ) → Light l heavy row known
      → Crosses l y numbers heavy row c (each now.left) (each now.left) vs
      → apart_in l heavy z vs c heavy.n < r) where
    -- the others, those that have as much left after it
    abbrev Stays : List ℕ → Type 0
    Stays x =
        UnderMarks l y numbers heavy shape known marks rests z sets apart c now hand x
        × ((s : ℕ) → s < heavy.n → own_left l y heavy x (c + 1) s ≡ each now.left s)

    joined : {exit : List ℕ} {h : ℕ} {p : Bool} → Grown l numbers y cap Stays mid f q exit h p
        → Grown l numbers y cap P entry d m exit h p
    joined {exit} {h} {p} k =
        going.joins exit h p
        (grown_weaken
        (λ x sent u. ⊎_elim (λ lower. inl (u, lower)) (λ same. inr (u, same)) (loses_or_not column u going.shaped))
        (grown_then going.holding g k))

    -- there are none
    pub going_lost : ((x : List ℕ) → Sent l numbers y x → Stays x → ⊥) → Grown l numbers y cap P entry d m mid f q
    going_lost none = joined (grown_nothing (grown_holding going.holding g) none)

    -- none crosses the column
    pub going_uncrossed : r ≡ 0 → Grown l numbers y cap P entry d m mid f q
    going_uncrossed z = going_lost (λ x sent u. omega (arith, crossed column u.0 u.1 crossing))

    -- what was looked for changed only what is not decided, and then the column was read
    module _ {held : List ℕ} (kept : SameBut l (Free heavy c 0 now.cells) hand held) {ok : Bool} {new : Table}
        {after : List ℕ} (stepped : Stepped l y heavy c (each now.left) now held ok new after) where
      stays : {x : List ℕ} → Stays x
          → UnderMarks l y numbers heavy shape known marks rests z sets apart c now held x
      stays u = (under_same kept u.0.0, u.0.1)

      -- none is read so
      pub going_unread : ok ≡ false → Grown l numbers y cap P entry d m mid f q
      going_unread fails =
          going_lost (λ x sent u. false≢true (sym fails ∙ (stepped.under x sent.0 (stays u).0 u.1).0))

      pub going_read : SameBut l free first after
      going_read = going_same (same_trans kept stepped.same)

      -- or they are under the next table
      pub going_next : ok ≡ true → length after ≡ length first → (fresh : List ℕ)
          → ((row vs : List ℕ) → Light l heavy row known
          → Crosses l y numbers heavy row c (each now.left) (each now.left) vs
          → Holds l heavy sets vs c → Holds l heavy fresh vs (c + 1))
          → (more : ℕ) → r ≤ more + 1 → more ≤ 6
          → Going l y totals counts numbers heavy shape known marks rests z room cap P free first entry d m top after mid
          new fresh (apart + more) f q (c + 1)
      going_next went wide fresh brings more add few =
          record {
            inside = omega arith;
            holding = grown_holding going.holding g;
            long = grown_length going.holding g ∙ going.long;
            wide = wide;
            same = going_read;
            fewer = λ i j f. going.fewer i j (stepped.fewer i j f);
            sound = stepped.sound;
            shaped = shape_next stepped went going.shaped going.shaped.within;
            at_top = state-next stepped went going.shaped ∙ going.at_top;
            looked = looked_next few going.looked;
            near = near-stays l numbers y z room going.holding g going.near;
            joins = λ exit h p k.
                joined
                (grown_weaken
                (λ x sent u. (under_next column (stays u) u.1 crossing more add fresh brings sent.0 stepped).1) k);
          }
