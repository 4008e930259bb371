-- Loss tables: in the heavy blocks, those with two losses or more, "losses are shared among chunks likewise" (document
-- 01, "Steps of the source"), column by column; and the rows under a state of that.
use Rattle.std.specs.Prelude.{ℕ, ◌+◌, ◌*◌, ◌-◌, ◌<◌, ◌≤◌, ◌≡◌, Bool, true, cond, ◌⊎◌, List, ltb, length, get_or, set, take, drop}
use Rattle.bits.specs.Bits.{AllBits, digits, most_chunks}
use Rattle.rows.specs.Held.{Held, Known}
use Rattle.rows.specs.Order.{Row}
use Rattle.message.specs.Layout.{legal, row_bits, block_bits}
use Rattle.message.specs.declared.Layout.{Layout}
use Rattle.consistent.specs.Greedy.{losses, in_all}
use Rattle.lines.specs.Lines.{values, unlike}
use Rattle.cells.specs.Cells.{share, Open, OpenAt, Placed, chunk_of, SameBut, Under as UnderCells}
use Rattle.cells.specs.declared.Cells.{Cells}
use Rattle.windows.specs.Windows.{Tables}
use Rattle.found.specs.Found.{Sent}
use Rattle.anchor.specs.Anchor.{over}
use Rattle.states.specs.States.{state, each, entry_at, Shaped}
use Rattle.states.specs.declared.Shape.{Shape}
use Rattle.column.specs.Column.{chunk_at, Light}
use Rattle.column.specs.declared.Heavy.{Heavy}
use Rattle.sums.specs.Sums.{Holds, HoldsFrom}
use Rattle.marks.specs.Marks.{Path, Through, apart_from}
use Rattle.tables.specs.declared.Table.{Table}

-- the column that heavy block s has come to, where in column j the first h heavy blocks have their share
abbrev pub reached : (j h s : ℕ) → ℕ
reached j h s = cond (ltb s h) (j + 1) j

-- chunk c of block i is one whose share is not chosen yet
abbrev pub Undecided : Heavy → (j h i c : ℕ) → Type 0
Undecided heavy j h i c = (s : ℕ) × ((s < heavy.n) × ((get_or heavy.block s 0 ≡ i) × (reached j h s ≤ c)))

-- chunk c of block i can be any yet: its share is not chosen, or it is an open cell
abbrev pub Free : Heavy → (j h : ℕ) → Cells → (i c : ℕ) → Type 0
Free heavy j h cells i c = Undecided heavy j h i c ⊎ OpenAt cells i c

-- the losses of the row x before its chunk c
abbrev pub lost_before : Layout → (y x : List ℕ) → (c : ℕ) → ℕ
lost_before l y x c = losses (take (c * l.nc) x) y

-- chunk c of the row x has just a losses
abbrev pub Loses : Layout → (y x : List ℕ) → (c a : ℕ) → Type 0
Loses l y x c a = lost_before l y x (c + 1) ≡ lost_before l y x c + a

-- what holds of a table while it is made: the heavy blocks are blocks of the layout in ascending order, the cells stand
-- in the row, there is room for a cell for each loss that is left, only heavy blocks have losses left, and no block has
-- exactly one loss in its cells and left
pub record Sound (l : Layout) (m : ℕ) (heavy : Heavy) (t : Table) : Type 0 where
  pub few : heavy.n ≤ 6
  pub inside : (s : ℕ) → s < heavy.n → get_or heavy.block s 0 < l.l1
  pub ascending : (s t : ℕ) → s < t → t < heavy.n → get_or heavy.block s 0 < get_or heavy.block t 0
  pub placed : Placed l m t.cells
  pub room : t.cells.n + in_all t.left ≤ 12
  pub fresh : (z : ℕ) → t.cells.n ≤ z → get_or t.cells.lost z 0 ≡ 0
  pub spare : (s : ℕ) → heavy.n ≤ s → get_or t.left s 0 ≡ 0
  pub not_one : (i : ℕ) → share t.cells.block t.cells.lost i + share heavy.block t.left i ≡ 1 → ⊥

-- the row x is under the state: its losses up to the end of each heavy block are those of the pattern, of these as many
-- are still to come as are left, and its chunks are those in hand but for those not decided yet and the cells
pub record Under (l : Layout) (y : List ℕ) (heavy : Heavy) (j h : ℕ) (t : Table) (hand x : List ℕ) : Type 0 where
  pub ends : (s : ℕ) → s < heavy.n
      → losses (take ((get_or heavy.block s 0 + 1) * block_bits l) x) y ≡ get_or heavy.end s 0
  pub shifts : (s : ℕ) → s < heavy.n
      → lost_before l y x (chunk_at l heavy (reached j h s) s) + get_or t.left s 0 ≡ get_or heavy.end s 0
  pub decided : SameBut l (Free heavy j h t.cells) hand (values l x)
  pub loses : (z : ℕ) → Open t.cells z
      → losses (digits l.nc (get_or (values l x) (chunk_of l t.cells z) 0)) (drop (get_or t.cells.place z 0) y)
      ≡ get_or t.cells.lost z 0

-- the losses that the row x has in heavy block s from column j on
abbrev pub own_left : Layout → (y : List ℕ) → Heavy → (x : List ℕ) → (j s : ℕ) → ℕ
own_left l y heavy x j s = get_or heavy.end s 0 - lost_before l y x (chunk_at l heavy j s)

-- the shape is that of loss states of the heavy blocks, and so much left is one of them
pub record ShapeOf (heavy : Heavy) (shape : Shape) (left : List ℕ) : Type 0 where
  pub blocks : shape.n ≡ heavy.n
  pub shaped : Shaped shape.n shape.size shape.stride shape.states
  pub within : (s : ℕ) → s < shape.n → get_or left s 0 ≤ each shape.size s

-- the mark of state q in column j, which is 255 where none is kept
abbrev pub IsMark : Shape → (marks : List ℕ) → (j q mark : ℕ) → Type 0
IsMark shape marks j q mark =
    (mark ≡ 255) ⊎ ((j * shape.states + q < length marks) × (mark ≡ get_or marks (j * shape.states + q) 0))

-- at most six heavy blocks of the layout, in ascending order
pub record HeavyOf (l : Layout) (heavy : Heavy) : Type 0 where
  pub few : heavy.n ≤ 6
  pub inside : (s : ℕ) → s < heavy.n → get_or heavy.block s 0 < l.l1
  pub ascending : (s t : ℕ) → s < t → t < heavy.n → get_or heavy.block s 0 < get_or heavy.block t 0

-- the chunks vs are those in hand in the blocks that are not heavy
abbrev pub LightIn : Layout → Heavy → (row vs : List ℕ) → Type 0
LightIn l heavy row vs =
    (i j : ℕ) → i < l.l1 → j < l.l2 → ((s : ℕ) → s < heavy.n → get_or heavy.block s 0 ≡ i → ⊥)
    → get_or vs (i * l.l2 + j) 0 ≡ get_or row (i * l.l2 + j) 0

-- what the columns are looked at with: the tables of the received row, a sum for each column, chunks to compare with,
-- and a number of chunks that stays small
pub record Looked (l : Layout) (y totals counts known z : List ℕ) (differ j : ℕ) : Type 0 where
  pub tables : Tables y 0 totals counts
  pub sums : l.l2 ≤ length known
  pub others : l.l1 * l.l2 ≤ length z
  pub small : differ ≤ most_chunks + j * 6

-- in how many chunks the row x is another than the chunks z
abbrev pub apart : Layout → (z x : List ℕ) → ℕ
apart l z x = over (unlike (values l x) z) 0 (l.l1 * l.l2)

-- every consistent row that differs from z in fewer than room chunks is known
abbrev pub NearKnown : (l : Layout) (numbers y : List ℕ) → Held → (z : List ℕ) (room : ℕ) → Type 0
NearKnown l numbers y held z room = (x : List ℕ) → Sent l numbers y x → apart l z x < room → Known held x

-- the row x comes through marked loss states, what its heavy blocks bring from column j on is in their sets, and it differs
-- from z in at most differ chunks beside those of the heavy blocks from there on
pub record Comes (l : Layout) (y numbers : List ℕ) (heavy : Heavy) (shape : Shape) (known marks rests z sets : List ℕ)
    (differ j : ℕ) (x : List ℕ) : Type 0 where
  pub row : List ℕ
  pub light : Light l heavy row known
  pub path : Path l y numbers heavy row (each shape.size) (values l x) (own_left l y heavy x)
  pub through : Through l shape marks (own_left l y heavy x) (apart_from l heavy z (values l x))
  pub sums : Holds l heavy sets (values l x) j
  pub rest-sums : HoldsFrom l heavy rests (values l x) (own_left l y heavy x) 0
  pub within : apart l z x ≤ differ + apart_from l heavy z (values l x) j

-- the row x is under the state, and comes through marked ones
abbrev pub UnderMarks : (l : Layout) (y numbers : List ℕ) → Heavy → Shape → (known marks rests z sets : List ℕ)
    → (differ j : ℕ) → Table → (hand x : List ℕ) → Type 0
UnderMarks l y numbers heavy shape known marks rests z sets differ j t hand x =
    Under l y heavy j 0 t hand x × Comes l y numbers heavy shape known marks rests z sets differ j x

-- every consistent row under the state leaves column j with numbers of losses left that are marked
abbrev pub Leaves : (l : Layout) (y numbers : List ℕ) → Heavy → Shape → (known marks rests z sets : List ℕ)
    → (differ j : ℕ) → Table → (hand can : List ℕ) → Type 0
Leaves l y numbers heavy shape known marks rests z sets differ j t hand can =
    (x : List ℕ) → Sent l numbers y x → UnderMarks l y numbers heavy shape known marks rests z sets differ j t hand x
    → (s : ℕ) → s < heavy.n → 0 < get_or can (entry_at s (own_left l y heavy x (j + 1) s)) 0

-- the cells with one more
abbrev pub pushed : Cells → (i j a place : ℕ) → Cells
pushed cells i j a place =
    record {
      n = cells.n + 1;
      block = set cells.block cells.n i;
      column = set cells.column cells.n j;
      lost = set cells.lost cells.n a;
      place = set cells.place cells.n place;
    }

-- the table in which heavy block h, which is block i, loses a bits in a new cell of column j
abbrev pub with_cell : Table → (h i j a place : ℕ) → Table
with_cell t h i j a place =
    record {
      left = set t.left h (get_or t.left h 0 - a);
      cells = pushed t.cells i j a place;
    }

-- what sharing out asks: received bits of a legal layout, a sound table, and in column j a share for heavy block h of
-- what it has left
pub record Sharable (l : Layout) (y : List ℕ) (heavy : Heavy) (j h a : ℕ) (t : Table) : Type 0 where
  pub is_legal : legal l ≡ true
  pub bits : AllBits y
  pub short : length y ≤ row_bits l
  pub sound : Sound l (length y) heavy t
  pub column : j < l.l2
  pub some : h < heavy.n
  pub less : a ≤ get_or t.left h 0

-- what sharing out answers: a sound table in which heavy block h has a losses fewer left, and every row under the state
-- whose chunk has just a losses is under it; chunks that were decided stay so, and as they are
pub record Shared (l : Layout) (y : List ℕ) (heavy : Heavy) (j h a : ℕ) (t : Table) (hand : List ℕ) (ok : Bool)
    (new : Table) (after : List ℕ) : Type 0 where
  pub sound : Sound l (length y) heavy new
  pub falls : ok ≡ true → get_or new.left h 0 + a ≡ get_or t.left h 0
  pub others : (s : ℕ) → (s ≡ h → ⊥) → get_or new.left s 0 ≡ get_or t.left s 0
  pub under : (x : List ℕ) → Row (row_bits l) x → Under l y heavy j h t hand x → Loses l y x (chunk_at l heavy j h) a
      → (ok ≡ true) × Under l y heavy j (h + 1) new after x
  pub fewer : (i c : ℕ) → Free heavy j (h + 1) new.cells i c → Free heavy j h t.cells i c
  pub same : SameBut l (Free heavy j h t.cells) hand after

-- no heavy block has losses left to share
abbrev pub NoneLeft : (left : List ℕ) → Type 0
NoneLeft left = (s : ℕ) → get_or left s 0 ≡ 0

-- the row x is under a table after the last column: no losses are left, and its chunks are those in hand but for the
-- cells
abbrev pub Whole : Layout → (y : List ℕ) → Table → (hand x : List ℕ) → Type 0
Whole l y t hand x = NoneLeft t.left × UnderCells l y t.cells hand x

-- what a step over column j answers: a sound table with so much left, and every row under the state that has just so
-- much left after the column is under it; chunks that were decided stay so, and as they are
pub record Stepped (l : Layout) (y : List ℕ) (heavy : Heavy) (j : ℕ) (next : ℕ → ℕ) (t : Table) (hand : List ℕ)
    (ok : Bool) (new : Table) (after : List ℕ) : Type 0 where
  pub sound : Sound l (length y) heavy new
  pub has_left : ok ≡ true → (s : ℕ) → s < heavy.n → get_or new.left s 0 ≡ next s
  pub under : (x : List ℕ) → Row (row_bits l) x → Under l y heavy j 0 t hand x
      → ((s : ℕ) → s < heavy.n → own_left l y heavy x (j + 1) s ≡ next s)
      → (ok ≡ true) × Under l y heavy (j + 1) 0 new after x
  pub fewer : (i c : ℕ) → Free heavy (j + 1) 0 new.cells i c → Free heavy j 0 t.cells i c
  pub same : SameBut l (Free heavy j 0 t.cells) hand after
