-- Rows that come through marked loss states, from one column to the next: what a row has left is what its table has
-- left, a mark of its state covers what it can still differ in, and a column that it crosses takes it on. Rests on the
-- laws of states. Assumes nothing.
use Prim.Native.Nat.{ℕ, zero, suc, ◌+◌, ◌<◌, ◌≤◌}
use mathlib.Core.Path.{◌≡◌, sym, subst, ◌∙◌}
use mathlib.Core.Bool.{Bool, true}
use mathlib.Core.Logic.{◌⊎◌, inl, inr, ⊎_elim}
use mathlib.Core.List.{List, [], ◌∷◌}
use native.Mathlib.Nat.{mul_comm}
use native.Mathlib.Omega.{arith}
use lib.ListN.{length, get_or}
use Rattle.bits.proofs.Laws.{lt_or_ge}
use Rattle.rows.specs.Held.{Held, Known}
use Rattle.rows.specs.Order.{Row}
use Rattle.rows.specs.Slice.{rows_of_slice}
use Rattle.rows.proofs.Held.{known-stays}
use Rattle.message.specs.Layout.{row_bits}
use Rattle.message.specs.declared.Layout.{Layout}
use Rattle.message.proofs.Legal.{legal_bounds, sizes}
use Rattle.consistent.specs.Greedy.{in_all}
use Rattle.lines.specs.Lines.{values}
use Rattle.found.specs.Found.{Given, Holding, Grown}
use Rattle.found.proofs.Found.{grown_rows}
use Rattle.states.specs.States.{state, each, lefts, entry_at, state_of}
use Rattle.states.specs.declared.Shape.{Shape}
use Rattle.states.proofs.States.{state-low, state-same, state_up, state-only, digits_of, state_of_is, digits-most}
use Rattle.column.specs.Column.{Fit, Light, Crosses, apart_in}
use Rattle.column.specs.declared.Heavy.{Heavy}
use Rattle.residues.specs.Residues.{Has}
use Rattle.sums.specs.Sums.{Short, block_modulus, rest, Holds, rest_at, HoldsFrom}
use Rattle.marks.specs.Marks.{Covers, apart_from}
use Rattle.marks.proofs.Paths.{apart_next, path-most, crosses-same}
use Rattle.tables.specs.Tables.{Sound, Under, own_left, ShapeOf, IsMark, Looked, apart, NearKnown, Comes}
use Rattle.tables.specs.Tables.{UnderMarks, Stepped}
use Rattle.tables.specs.declared.Table.{Table}
use Rattle.tables.proofs.Making.{reached_not}

-- what a column is looked at with
pub fits : {l : Layout} {numbers y : List ℕ} {heavy : Heavy} {t : Table} → Given l numbers y
    → Sound l (length y) heavy t → Fit l y numbers heavy
fits {l} given sound =
    record {
      allowed = given.is_legal;
      bits = given.bits;
      short = omega (arith, given.short, (sizes l (legal_bounds l given.is_legal)).row);
      sums = omega (arith, given.count);
      low = λ j h. omega (arith, given.strings j h, mul_comm l.nc l.l1);
      few = sound.few;
      inside = sound.inside;
      ascending = sound.ascending;
    }

-- a heavy block has few losses left
one_of : (counts : List ℕ) (s : ℕ) → get_or counts s 0 ≤ in_all counts
unfolding in_all
one_of [] s = omega arith
one_of (a ∷ counts) zero = omega arith
one_of (a ∷ counts) (suc s) = omega (arith, one_of counts s)

pub few_left : {l : Layout} {m : ℕ} {heavy : Heavy} {t : Table} → Sound l m heavy t → (s : ℕ)
    → each t.left s < lefts
few_left {t = t} sound s = omega (arith, sound.room, one_of t.left s)

-- a table at the start of a column has as much left as the rows under it
pub left_own : {l : Layout} {y : List ℕ} {heavy : Heavy} {j : ℕ} {t : Table} {hand x : List ℕ}
    → Under l y heavy j 0 t hand x → (s : ℕ) → s < heavy.n → own_left l y heavy x j s ≡ get_or t.left s 0
left_own {j = j} u s h = omega (arith, rw (reached_not j 0 s (omega arith)) at (u.shifts s h))

-- rows that are known stay so while the rows held grow
pub near-stays : (l : Layout) (numbers y : List ℕ) {cap : ℕ} {P : List ℕ → Type 0} {entry exit : List ℕ} {c d : ℕ}
    {m o : Bool} (z : List ℕ) (room : ℕ) → Holding l numbers y cap entry c m
    → Grown l numbers y cap P entry c m exit d o → NearKnown l numbers y (rows_of_slice (row_bits l) entry c m) z room
    → NearKnown l numbers y (rows_of_slice (row_bits l) exit d o) z room
near-stays l numbers y z room h g near x sent few =
    subst (λ (s : Held). Known s x) (sym (grown_rows h g)) (known-stays h.well g.found x (near x sent few))

-- ---- numbers and their states
-- so much is left in the state with this number
abbrev pub IsLeft : Shape → (to : ℕ) (next : List ℕ) → Type 0
IsLeft shape to next =
    (own : ℕ → ℕ) → ((s : ℕ) → s < shape.n → own s ≤ each shape.size s) → to ≡ state_of shape own
    → (s : ℕ) → s < shape.n → get_or next s 0 ≡ own s

-- what is left in a state below one of the shape is a state of the shape, with this number
pub left_state : {heavy : Heavy} {shape : Shape} {left : List ℕ} (next : List ℕ) (to : ℕ) → ShapeOf heavy shape left
    → to < state_of shape (each left) → IsLeft shape to next
    → (state_of shape (each next) ≡ to) × ((s : ℕ) → s < shape.n → get_or next s 0 ≤ each shape.size s)
left_state {shape = shape} {left} next to of low is =
    (state-same size (each next) own shape.n same ∙ number, λ s h. rw (same s h) (most s h))
  where
    size : ℕ → ℕ
    size = each shape.size

    own : ℕ → ℕ
    own = digits_of size to

    number : state size own shape.n ≡ to
    number = state_of_is size to shape.n (omega (arith, low, state-low size (each left) shape.n of.within))

    most : (s : ℕ) → s < shape.n → own s ≤ size s
    most s h = digits-most size to s

    same : (s : ℕ) → s < shape.n → get_or next s 0 ≡ own s
    same = is own most (sym number)

-- ---- a row under a table at the start of a column
module _ {l : Layout} {y numbers : List ℕ} {heavy : Heavy} {shape : Shape} {known marks rests z sets : List ℕ} {differ j : ℕ}
    {x : List ℕ} (comes : Comes l y numbers heavy shape known marks rests z sets differ j x) where
  -- a mark of its state in a column covers what it can still differ in
  pub comes-covered : (k mark : ℕ) → k ≤ l.l2 → IsMark shape marks k (state_of shape (own_left l y heavy x k)) mark
      → Covers mark (apart_from l heavy z (values l x) k)
  comes-covered k mark h (inl e) = (omega arith, inr (omega arith))
  comes-covered k mark h (inr e) = rw e.1 (comes.through k h e.0)

  -- so it is not zero
  pub comes-marked : (k to mark : ℕ) → k ≤ l.l2 → IsMark shape marks k to mark → mark ≡ 0
      → state_of shape (own_left l y heavy x k) ≡ to → ⊥
  comes-marked k to mark h is none e =
      omega (arith, none, (comes-covered k mark h (subst (λ (v : ℕ). IsMark shape marks k v mark) (sym e) is)).0)

  -- where that is too little, the row is near
  pub comes-near : (k so_far mark room : ℕ) → k ≤ l.l2 → apart l z x ≤ so_far + apart_from l heavy z (values l x) k
      → IsMark shape marks k (state_of shape (own_left l y heavy x k)) mark
      → ((n : ℕ) → Covers mark n → so_far + n < room) → apart l z x < room
  comes-near k so_far mark room h within is low =
      omega (arith, within, low (apart_from l heavy z (values l x) k) (comes-covered k mark h is))

  -- it never has more left than at first
  pub comes-most : (k s : ℕ) → k ≤ l.l2 → s < heavy.n → own_left l y heavy x k s ≤ each shape.size s
  comes-most k s h i = path-most comes.path k s h i

  -- what it has left in a column is what is left in its state
  pub own_left_is : {left : List ℕ} → ShapeOf heavy shape left → (k to : ℕ) (next : List ℕ) → k ≤ l.l2
      → IsLeft shape to next → state_of shape (own_left l y heavy x k) ≡ to → (s : ℕ) → s < heavy.n
      → own_left l y heavy x k s ≡ each next s
  own_left_is of k to next h is e s i =
      sym
      (is (own_left l y heavy x k) (λ r g. comes-most k r h (omega (arith, of.blocks))) (sym e) s
      (omega (arith, of.blocks)))

module _ {l : Layout} {y numbers : List ℕ} {heavy : Heavy} {shape : Shape} {known marks rests z sets : List ℕ} {differ j : ℕ}
    {t : Table} {hand x : List ℕ} (column : j < l.l2)
    (u : UnderMarks l y numbers heavy shape known marks rests z sets differ j t hand x) where
  -- the row loses a bit in the column, or has as much left after it
  pub loses_or_not : {left : List ℕ} → ShapeOf heavy shape left
      → (state_of shape (own_left l y heavy x (j + 1)) < state_of shape (each t.left))
      ⊎ ((s : ℕ) → s < heavy.n → own_left l y heavy x (j + 1) s ≡ each t.left s)
  loses_or_not of =
      ⊎_elim inl (λ h. inr (λ s k. same h s (omega (arith, of.blocks))))
      (lt_or_ge (state_of shape (own (j + 1))) (state_of shape (each t.left)))
    where
      own : ℕ → ℕ → ℕ
      own = own_left l y heavy x

      size : ℕ → ℕ
      size = each shape.size

      here : (s : ℕ) → s < shape.n → own j s ≡ each t.left s
      here s k = left_own u.0 s (omega (arith, of.blocks))

      up : state_of shape (own (j + 1)) ≤ state_of shape (each t.left)
      up =
          state_up size (own (j + 1)) (each t.left) shape.n
          (λ s k. omega (arith, here s k, (u.1.path.crosses j column).falls s (omega (arith, of.blocks))))

      same : state_of shape (each t.left) ≤ state_of shape (own (j + 1)) → (s : ℕ) → s < shape.n
          → own (j + 1) s ≡ each t.left s
      same h =
          state-only size (own (j + 1)) (each t.left) shape.n
          (λ s k. comes-most u.1 (j + 1) s (omega arith) (omega (arith, of.blocks)))
          (λ s k. rw (← here s k) (comes-most u.1 j s (omega arith) (omega (arith, of.blocks))))
          (omega (arith, up, h))

  -- it crosses the column to what it has left after it
  module _ {next : ℕ → ℕ} (own : (s : ℕ) → s < heavy.n → own_left l y heavy x (j + 1) s ≡ next s) where
    crosses : Crosses l y numbers heavy u.1.row j (each t.left) next (values l x)
    crosses = crosses-same l y numbers heavy _ j (values l x) _ _ _ _ (left_own u.0) own (u.1.path.crosses j column)

    -- so the numbers of losses that it has left after it are marked
    pub leaves : (can : List ℕ)
        → ((row vs : List ℕ) (next : ℕ → ℕ) → Crosses l y numbers heavy row j (each t.left) next vs
        → Holds l heavy sets vs j
        → (Short l → (s : ℕ) → s < heavy.n
        → Has (block_modulus l) (get_or rests (rest_at (j + 1) s (next s)) 0) (rest l heavy vs (j + 1) s))
        → (s : ℕ) → s < heavy.n → 0 < get_or can (entry_at s (next s)) 0)
        → (s : ℕ) → s < heavy.n → 0 < get_or can (entry_at s (next s)) 0
    leaves can exits =
        exits u.1.row (values l x) next crosses u.1.sums
        (λ short s h.
        subst (λ (v : ℕ). Has (block_modulus l) (get_or rests (rest_at (j + 1) s v) 0) (rest l heavy (values l x) (j + 1) s))
        (own s h) (u.1.rest-sums short (j + 1) s (omega arith) (omega arith) h))

    -- and what its heavy blocks bring from there on is in the sets after it
    module _ (fresh : List ℕ)
        (after : (row vs : List ℕ) → Light l heavy row known
        → Crosses l y numbers heavy row j (each t.left) next vs
        → Holds l heavy sets vs j → Holds l heavy fresh vs (j + 1)) where
      sums_next : Holds l heavy fresh (values l x) (j + 1)
      sums_next = after u.1.row (values l x) u.1.light crosses u.1.sums

      -- which have it in common with what they can bring
      pub sums_meet : {ok : Bool}
          → ((vs : List ℕ) (left : ℕ → ℕ → ℕ) → Holds l heavy fresh vs (j + 1) → HoldsFrom l heavy rests vs left 0
          → ((s : ℕ) → s < heavy.n → left (j + 1) s ≡ next s) → ok ≡ true)
          → ok ≡ true
      sums_meet meets = meets (values l x) (own_left l y heavy x) sums_next u.1.rest-sums own

    module _ {r : ℕ}
        (crossing : (row vs : List ℕ) → Light l heavy row known
        → Crosses l y numbers heavy row j (each t.left) next vs
        → apart_in l heavy z vs j heavy.n < r) where
      pub crossed : apart_in l heavy z (values l x) j heavy.n < r
      crossed = crossing u.1.row (values l x) u.1.light crosses

      module _ (more : ℕ) (add : r ≤ more + 1) where
        pub within-next : apart l z x ≤ differ + more + apart_from l heavy z (values l x) (j + 1)
        within-next = omega (arith, u.1.within, apart_next l heavy z (values l x) j column, crossed)

        -- and comes on
        module _ (fresh : List ℕ)
            (after : (row vs : List ℕ) → Light l heavy row known
            → Crosses l y numbers heavy row j (each t.left) next vs
            → Holds l heavy sets vs j → Holds l heavy fresh vs (j + 1)) where
          comes-next : Comes l y numbers heavy shape known marks rests z fresh (differ + more) (j + 1) x
          comes-next =
              record {
                row = u.1.row;
                light = u.1.light;
                path = u.1.path;
                through = u.1.through;
                sums = sums_next fresh after;
                rest-sums = u.1.rest-sums;
                within = within-next;
              }

          pub under_next : {ok : Bool} {new : Table} {after : List ℕ} → Row (row_bits l) x
              → Stepped l y heavy j next t hand ok new after
              → (ok ≡ true)
              × UnderMarks l y numbers heavy shape known marks rests z fresh (differ + more) (j + 1) new after x
          under_next row stepped = let n = stepped.under x row u.0 own in (n.0, (n.1, comes-next))

-- ---- the table after a column
module _ {l : Layout} {y : List ℕ} {heavy : Heavy} {j : ℕ} {next : ℕ → ℕ} {t : Table} {hand : List ℕ} {ok : Bool}
    {new : Table} {after : List ℕ} {shape : Shape} (stepped : Stepped l y heavy j next t hand ok new after) (went : ok ≡ true) {left : List ℕ}
    (of : ShapeOf heavy shape left) where
  has_left : (s : ℕ) → s < shape.n → each new.left s ≡ next s
  has_left s h = stepped.has_left went s (omega (arith, of.blocks))

  -- it has a state of the shape again, the one that was asked for
  pub shape_next : ((s : ℕ) → s < shape.n → next s ≤ each shape.size s) → ShapeOf heavy shape new.left
  shape_next most =
      record { blocks = of.blocks; shaped = of.shaped; within = λ s h. rw (has_left s h) (most s h) }

  pub state-next : state_of shape (each new.left) ≡ state_of shape next
  state-next = state-same (each shape.size) (each new.left) next shape.n has_left

-- and the next column can be looked at
pub looked_next : {l : Layout} {y totals counts known z : List ℕ} {differ j more : ℕ} → more ≤ 6
    → Looked l y totals counts known z differ j → Looked l y totals counts known z (differ + more) (j + 1)
looked_next few looked =
    record {
      tables = looked.tables;
      sums = looked.sums;
      others = looked.others;
      small = omega (arith, looked.small);
    }
