-- What a row that is not near counts before a column, at least.
use Rattle.std.specs.Prelude.{ℕ, ◌+◌, ◌<◌, ◌≤◌, List, get_or}
use Rattle.states.specs.States.{most_states, state_of}
use Rattle.states.specs.declared.Shape.{Shape}
use Rattle.marks.specs.Marks.{many}
use Rattle.marks.specs.Digits.{Within}
use Rattle.near.specs.Near.{most_after}

-- the floors of the states of column j: what a row that comes through a state counts before the column, at least, if it
-- differs in room chunks
pub record Floors (columns : ℕ) (shape : Shape) (after : List ℕ) (room j : ℕ) (floors : List ℕ) : Type 0 where
  pub low : (q : ℕ) → q < most_states → get_or floors q 0 < many
  pub under : (left : ℕ → ℕ) → Within shape left → (n : ℕ) → room ≤ n + most_after columns after left j shape.n
      → get_or floors (state_of shape left) 0 ≤ n
