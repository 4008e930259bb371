-- What the chunk of each heavy block can be in a column, from a loss state, is listed as choices. With each go what the
-- chunk brings to the column's sum, and whether a row can differ there from another one.
use Rattle.std.specs.Prelude.{ℕ, ◌+◌, ◌-◌, ◌*◌, ◌<◌, ◌≤◌, ◌≡◌, true, List, length, get_or, take, drop}
use Rattle.bits.specs.Bits.{AllBits, longest, digits}
use Rattle.vt.specs.Sum.{total}
use Rattle.message.specs.Layout.{legal}
use Rattle.message.specs.declared.Layout.{Layout}
use Rattle.windows.specs.Windows.{Tables}
use Rattle.lines.specs.Lines.{unlike}
use Rattle.states.specs.States.{each, most_states, Shaped}
use Rattle.states.specs.declared.Shape.{Shape}
use Rattle.weigh.specs.Weigh.{chunk_top, SeenIn, MoreOnes}
use Rattle.weigh.specs.declared.Span.{Span}
use Rattle.column.specs.Column.{chunk_at, value_at, Crosses}
use Rattle.column.specs.declared.Heavy.{Heavy}
use Rattle.choices.specs.declared.View.{View}

-- the loss states of the heavy blocks, of which so much left is one
pub record Fitted (heavy : Heavy) (shape : Shape) (left : List ℕ) : Type 0 where
  pub blocks : shape.n ≡ heavy.n
  pub shaped : Shaped shape.n shape.size shape.stride shape.states
  pub states : shape.states ≤ most_states
  pub within : (s : ℕ) → s < shape.n → get_or left s 0 ≤ each shape.size s

-- what is looked at: a received row with its tables, and heavy blocks of a layout
pub record Seeable (l : Layout) (y totals counts : List ℕ) (heavy : Heavy) (j : ℕ) : Type 0 where
  pub allowed : legal l ≡ true
  pub bits : AllBits y
  pub short : length y ≤ longest
  pub tables : Tables y 0 totals counts
  pub few : heavy.n ≤ 6
  pub blocks : (s : ℕ) → s < heavy.n → get_or heavy.block s 0 < l.l1
  pub column : j < l.l2

-- what is seen of the chunk of heavy block s in column j, if it loses a bits where so many are left: where the bits
-- start that it takes, their ones, and how many more it can have
pub record Viewed (l : Layout) (y : List ℕ) (heavy : Heavy) (j s left a : ℕ) (view : View) : Type 0 where
  pub few : a ≤ l.nc
  pub place : view.at ≡ chunk_at l heavy j s * l.nc + left - get_or heavy.end s 0
  pub there : view.at + l.nc ≤ length y + a
  pub seen : SeenIn (take (l.nc - a) (drop view.at y)) (l.nc - a) view.seen
  pub more : MoreOnes y view.at (l.nc - a) a view.first view.last

-- ---- choices
-- What the chunk of a heavy block can be in a column is listed as choices, of four numbers each: what the choice adds to
-- the number of the state after the column, twice the least and twice the greatest that the chunk brings, and 1 if the
-- chunk can be another than in z. A block has few of them: its chunk loses none to eight bits, and none to all of these are
-- ones.
abbrev pub most_choices : ℕ
most_choices = 45

abbrev pub adds_of : (choices : List ℕ) (t : ℕ) → ℕ
adds_of choices t = get_or choices (4 * t) 0

abbrev pub least_of : (choices : List ℕ) (t : ℕ) → ℕ
least_of choices t = get_or choices (4 * t + 1) 0

abbrev pub most_of : (choices : List ℕ) (t : ℕ) → ℕ
most_of choices t = get_or choices (4 * t + 2) 0

abbrev pub other_of : (choices : List ℕ) (t : ℕ) → ℕ
other_of choices t = get_or choices (4 * t + 3) 0

-- the choices before choice t are as they were
pub record Keeps (t : ℕ) (entry exit : List ℕ) : Type 0 where
  pub long : length exit ≡ length entry
  pub before : (i : ℕ) → i < 4 * t → get_or exit i 0 ≡ get_or entry i 0

-- the numbers of choice t, where it is put
pub record Put (t adds : ℕ) (span : Span) (other : ℕ) (exit : List ℕ) : Type 0 where
  pub adds_is : adds_of exit t ≡ adds
  pub least_is : least_of exit t ≡ span.low
  pub most_is : most_of exit t ≡ span.high
  pub other_is : other_of exit t ≡ other

-- a choice of a block whose losses add so much at most
pub record Small (choices : List ℕ) (top t : ℕ) : Type 0 where
  pub adds_small : adds_of choices t ≤ top
  pub least-small : least_of choices t ≤ chunk_top
  pub most-small : most_of choices t ≤ chunk_top
  pub other-small : other_of choices t ≤ 1

-- what the chunk of heavy block b in column j brings to the sum of its chunk-string in a row with the chunks vs
abbrev pub brings_at : Layout → Heavy → (vs : List ℕ) (j b : ℕ) → ℕ
brings_at l heavy vs j b = total (get_or heavy.block b 0 * l.nc + 1) (digits l.nc (value_at l heavy vs j b))

-- a choice is that of the chunk of heavy block b in column j of a row with the chunks vs, and adds so much
pub record Suits (l : Layout) (heavy : Heavy) (z vs : List ℕ) (j b : ℕ) (choices : List ℕ) (adds t : ℕ) : Type 0 where
  pub adds_just : adds_of choices t ≡ adds
  pub least : least_of choices t ≤ 2 * brings_at l heavy vs j b
  pub most : 2 * brings_at l heavy vs j b ≤ most_of choices t
  pub other : unlike vs z (chunk_at l heavy j b) ≤ other_of choices t

-- one of the choices from low on, below high, is that
abbrev pub Offers : Layout → Heavy → (z vs : List ℕ) (j b : ℕ) (choices : List ℕ) (adds low high : ℕ) → Type 0
Offers l heavy z vs j b choices adds low high =
    (t : ℕ) × (((low ≤ t) × (t < high)) × Suits l heavy z vs j b choices adds t)

-- the choices from low on, below high, are those of heavy block b in column j, with so many losses left before, of which
-- each adds one: they offer its own to each row that crosses the column in this way
pub record ChoicesOf (l : Layout) (y : List ℕ) (heavy : Heavy) (z : List ℕ) (j b left one : ℕ) (choices : List ℕ)
    (low high : ℕ) (Way : (next : ℕ → ℕ) (vs : List ℕ) → Type 0) : Type 0 where
  pub order : low ≤ high
  pub small : (t : ℕ) → low ≤ t → t < high → Small choices (left * one) t
  pub offers : (numbers row vs : List ℕ) (own next : ℕ → ℕ) → own b ≡ left → Crosses l y numbers heavy row j own next vs
      → Way next vs → Offers l heavy z vs j b choices (next b * one) low high

-- so it is with each of the first s heavy blocks, whose choices begin where a list has it and end where those of the next
-- one begin; none of them ends behind those of block s
abbrev pub Blocks : Layout → (y : List ℕ) → Heavy → (z : List ℕ) (j : ℕ) (left ones : ℕ → ℕ) (choices from : List ℕ) (s : ℕ)
    → Type 0
Blocks l y heavy z j left ones choices from s =
    (b : ℕ) → b < s → (get_or from (b + 1) 0 ≤ get_or from s 0)
    × ChoicesOf l y heavy z j b (left b) (ones b) choices (get_or from b 0) (get_or from (b + 1) 0) (λ next vs. next b ≤ left b)
