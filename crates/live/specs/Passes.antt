-- How the marks that count chunks are made, column by column.
use Rattle.std.specs.Prelude.{ℕ, ◌+◌, ◌*◌, ◌<◌, ◌≤◌, ◌≡◌, Bool, true, false, List, length, get_or}
use Rattle.message.specs.declared.Layout.{Layout}
use Rattle.windows.specs.Windows.{Tables}
use Rattle.states.specs.States.{each, state_of}
use Rattle.states.specs.declared.Shape.{Shape}
use Rattle.column.specs.Column.{Fit, Light, Crosses, apart_in}
use Rattle.column.specs.declared.Heavy.{Heavy}
use Rattle.marks.specs.Marks.{Covers, Path, apart_from, Through}
use Rattle.marks.specs.Digits.{Within, entry_of}

-- all that is read to make the marks
pub record Ready (l : Layout) (y totals counts numbers : List ℕ) (heavy : Heavy) (known z : List ℕ) : Type 0 where
  pub fit : Fit l y numbers heavy
  pub tables : Tables y 0 totals counts
  pub long : l.l2 ≤ length known
  pub all : l.l1 * l.l2 ≤ length z

-- a row with the chunks vs crosses column j between the states own and other: ahead from other to own, otherwise from
-- own to other
pub record Joined (l : Layout) (y numbers : List ℕ) (heavy : Heavy) (known : List ℕ) (j : ℕ) (ahead : Bool)
    (own other : ℕ → ℕ) (vs : List ℕ) : Type 0 where
  pub row : List ℕ
  pub light : Light l heavy row known
  pub forth : ahead ≡ true → Crosses l y numbers heavy row j other own vs
  pub back : ahead ≡ false → Crosses l y numbers heavy row j own other vs

-- a mark of the state own covers what the mark of the state other, there, covers, and the chunks of column j that are
-- others than in z
abbrev pub Gains : Layout → (y numbers : List ℕ) → Heavy → (known z : List ℕ) → (j : ℕ) (ahead : Bool)
    (own other : ℕ → ℕ) (there mark : ℕ) → Type 0
Gains l y numbers heavy known z j ahead own other there mark =
    (vs : List ℕ) (m : ℕ) → Joined l y numbers heavy known j ahead own other vs → Covers there m
    → Covers mark (m + apart_in l heavy z vs j heavy.n)

-- fresh marks are raised by the mark of the state other after the column: those of the marked states low to high - 1 of
-- a column
pub record Spread (l : Layout) (y numbers : List ℕ) (heavy : Heavy) (known z digits : List ℕ) (j : ℕ) (other : ℕ → ℕ)
    (there : ℕ)
    (marks : List ℕ) (at low high : ℕ) (entry exit : List ℕ) : Type 0 where
  pub long : length exit ≡ length entry
  pub grows : (q : ℕ) → get_or entry q 0 ≤ get_or exit q 0
  pub gains : (q : ℕ) → low ≤ q → q < high → 0 < get_or marks (at + q) 0
      → Gains l y numbers heavy known z j false (entry_of digits q) other there (get_or exit q 0)

-- fresh marks are raised by the mark of the state with number p: those of all marked states of a column that a row can
-- join with it
pub record SpreadBy (l : Layout) (y numbers : List ℕ) (heavy : Heavy) (known z digits : List ℕ) (shape : Shape) (j : ℕ)
    (ahead : Bool)
    (p there : ℕ) (marks : List ℕ) (at : ℕ) (entry exit : List ℕ) : Type 0 where
  pub long : length exit ≡ length entry
  pub grows : (q : ℕ) → get_or entry q 0 ≤ get_or exit q 0
  pub gains : (own : ℕ → ℕ) → Within shape own → (ahead ≡ false → p ≤ state_of shape own)
      → 0 < get_or marks (at + state_of shape own) 0
      → Gains l y numbers heavy known z j ahead own (entry_of digits p) there (get_or exit (state_of shape own) 0)

-- the mark of the state own gains by the marks of the other states below number p, which stand at base
abbrev pub Gained : Layout → (y numbers : List ℕ) → Heavy → (known z : List ℕ) → Shape → (j : ℕ) (ahead : Bool)
    (marks : List ℕ) (base p : ℕ) (own : ℕ → ℕ) (mark : ℕ) → Type 0
Gained l y numbers heavy known z shape j ahead marks base p own mark =
    (other : ℕ → ℕ) → Within shape other → state_of shape other < p
    → Gains l y numbers heavy known z j ahead own other (get_or marks (base + state_of shape other) 0) mark

-- the mark of the state own covers what each mark of the other states, which stand at base, covers and the chunks of
-- column j that are others than in z, where these are floor together at least
abbrev pub Regained : Layout → (y numbers : List ℕ) → Heavy → (known z : List ℕ) → Shape
    → (j : ℕ) (ahead : Bool) (marks : List ℕ)
    (base floor : ℕ) (own : ℕ → ℕ) (mark : ℕ) → Type 0
Regained l y numbers heavy known z shape j ahead marks base floor own mark =
    (other : ℕ → ℕ) → Within shape other → (vs : List ℕ) (m : ℕ) → Joined l y numbers heavy known j ahead own other vs
    → Covers (get_or marks (base + state_of shape other) 0) m → floor ≤ m + apart_in l heavy z vs j heavy.n
    → Covers mark (m + apart_in l heavy z vs j heavy.n)

-- a pass over the marks: every row that they let through at entry and that differs from z in room chunks of the heavy
-- blocks they let through at exit, and cover the number f of it
pub record Pass (l : Layout) (y numbers : List ℕ) (heavy : Heavy) (known z : List ℕ) (shape : Shape) (room : ℕ)
    (f : List ℕ → ℕ → ℕ)
    (entry exit : List ℕ) : Type 0 where
  pub long : length exit ≡ length entry
  pub through : (row vs : List ℕ) (own : ℕ → ℕ → ℕ) → Light l heavy row known
      → Path l y numbers heavy row (each shape.size) vs own → room ≤ apart_from l heavy z vs 0
      → Through l shape entry own (λ j. 0) → Through l shape exit own (f vs)
