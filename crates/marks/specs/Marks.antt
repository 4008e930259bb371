-- Marks of loss states: for each column and each loss state of the heavy blocks whether a row can come through it, and
-- in how many chunks such a row can differ from another one.
use Rattle.std.specs.Prelude.{ℕ, zero, suc, ◌+◌, ◌-◌, ◌*◌, ◌<◌, ◌≤◌, ◌≡◌, ◌⊎◌, List, length, get_or}
use Rattle.message.specs.declared.Layout.{Layout}
use Rattle.states.specs.States.{most_states, Shaped, state_of}
use Rattle.states.specs.declared.Shape.{Shape}
use Rattle.column.specs.Column.{Crosses, apart_in}
use Rattle.column.specs.declared.Heavy.{Heavy}

-- from here on a mark says nothing of a number
abbrev pub many : ℕ
many = 40

-- a mark covers a number: it is not zero, and it is above the number or many
abbrev pub Covers : (mark n : ℕ) → Type 0
Covers mark n = (0 < mark) × ((n < mark) ⊎ (many ≤ mark))

-- where the mark of a loss state in column j stands; the marks of all columns stand one after another, and those after
-- the last
abbrev pub mark_at : Shape → (j : ℕ) (left : ℕ → ℕ) → ℕ
mark_at shape j left = j * shape.states + state_of shape left

-- the loss states own that a row with the chunks vs comes through: at the start of column j heavy block s has own j s
-- losses left, at first all, in the end none
pub record Path (l : Layout) (y numbers : List ℕ) (heavy : Heavy) (row : List ℕ) (size : ℕ → ℕ) (vs : List ℕ)
    (own : ℕ → ℕ → ℕ) : Type 0 where
  pub starts : (s : ℕ) → s < heavy.n → own 0 s ≡ size s
  pub ends : (s : ℕ) → s < heavy.n → own l.l2 s ≡ 0
  pub crosses : (j : ℕ) → j < l.l2 → Crosses l y numbers heavy row j (own j) (own (j + 1)) vs

-- in how many chunks of the heavy blocks vs is another than z: in the columns before j, and from column j on
unfoldable pub apart_before : Layout → Heavy → (z vs : List ℕ) (j : ℕ) → ℕ
unfolding apart_in
apart_before l heavy z vs zero = 0
apart_before l heavy z vs (suc j) = apart_before l heavy z vs j + apart_in l heavy z vs j heavy.n

abbrev pub apart_from : Layout → Heavy → (z vs : List ℕ) (j : ℕ) → ℕ
apart_from l heavy z vs j = apart_before l heavy z vs l.l2 - apart_before l heavy z vs j

-- the marks let the states own through, and cover the number f j in column j
abbrev pub Through : Layout → Shape → (marks : List ℕ) (own : ℕ → ℕ → ℕ) (f : ℕ → ℕ) → Type 0
Through l shape marks own f =
    (j : ℕ) → j ≤ l.l2 → mark_at shape j (own j) < length marks → Covers (get_or marks (mark_at shape j (own j)) 0) (f j)

-- states of the heavy blocks that are few enough for their marks to be kept
pub record Kept (heavy : Heavy) (shape : Shape) : Type 0 where
  pub blocks : shape.n ≡ heavy.n
  pub few : shape.states ≤ most_states
  pub shaped : Shaped shape.n shape.size shape.stride shape.states

-- the marks of one column, at a place, are made anew; nothing else is changed
pub record Remade (states at : ℕ) (entry exit : List ℕ) : Type 0 where
  pub long : length exit ≡ length entry
  pub others : (i : ℕ) → (i < at) ⊎ (at + states ≤ i) → get_or exit i 0 ≡ get_or entry i 0
