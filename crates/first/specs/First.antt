-- How the first marks of a column are made: by those of the next one, with steps of none or one loss tested.
use Rattle.std.specs.Prelude.{ℕ, ◌+◌, ◌-◌, ◌<◌, ◌≤◌, ◌≡◌, List, length, get_or}
use Rattle.message.specs.declared.Layout.{Layout}
use Rattle.windows.specs.Windows.{Tables}
use Rattle.states.specs.States.{lefts, each, state_of, entry_at}
use Rattle.states.specs.declared.Shape.{Shape}
use Rattle.column.specs.Column.{Fit, Light, Crosses}
use Rattle.column.specs.declared.Heavy.{Heavy}
use Rattle.whole.specs.Whole.{OneLess, Readings}
use Rattle.marks.specs.Marks.{Kept}

-- a column as it is read: the heavy blocks of a received row, and what their chunks there bring where they are read whole
pub record Read (l : Layout) (y totals counts numbers : List ℕ) (heavy : Heavy) (shape : Shape) (readings : List ℕ)
    (j : ℕ) : Type 0
  where
    pub fit : Fit l y numbers heavy
    pub tables : Tables y 0 totals counts
    pub column : j < l.l2
    pub kept : Kept heavy shape
    pub few : (s : ℕ) → s < heavy.n → each shape.size s < lefts
    pub read : Readings l y heavy shape.size j readings
    pub long : entry_at heavy.n 0 ≤ length readings

-- the state left is marked if a row crosses column j from it to a marked state
abbrev pub Goes : Layout → (y numbers : List ℕ) → Heavy → (known : List ℕ) → Shape → (j : ℕ) (marks : List ℕ) (base : ℕ)
    (left : ℕ → ℕ) (mark : ℕ) → Type 0
Goes l y numbers heavy known shape j marks base left mark =
    (row vs : List ℕ) (next : ℕ → ℕ) → Light l heavy row known → Crosses l y numbers heavy row j left next vs
    → 0 < get_or marks (base + state_of shape next) 0 → 0 < mark

-- the mark of the state left, number q: it is marked if its level is high, and, unless that is zero, if a row crosses
-- column j from it with no loss or with one to a marked state
pub record FirstMark (l : Layout) (y numbers : List ℕ) (heavy : Heavy) (known : List ℕ) (shape : Shape) (j : ℕ)
    (marks : List ℕ) (base : ℕ) (left : ℕ → ℕ) (q level mark : ℕ) : Type 0 where
  pub high : 2 < level → 0 < mark
  pub same : (row vs : List ℕ) (next : ℕ → ℕ) → Light l heavy row known → Crosses l y numbers heavy row j left next vs
      → ((s : ℕ) → s < heavy.n → next s ≡ left s) → 0 < level → 0 < get_or marks (base + q) 0 → 0 < mark
  pub one : (row vs : List ℕ) (next : ℕ → ℕ) (s : ℕ) → s < heavy.n → Light l heavy row known
      → Crosses l y numbers heavy row j left next vs → OneLess heavy.n left next s → get_or shape.stride s 0 ≤ q
      → 0 < level → 0 < get_or marks (base + (q - get_or shape.stride s 0)) 0 → 0 < mark
