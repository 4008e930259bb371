-- The losses left in the blocks of a loss state, and the table of them for all states.
use Rattle.std.specs.Prelude.{ℕ, ◌+◌, ◌*◌, ◌<◌, ◌≤◌, ◌≡◌, List, length, get_or}
use Rattle.states.specs.States.{each, state_of}
use Rattle.states.specs.declared.Shape.{Shape}

-- each block of a state has at most its size left
abbrev pub Within : Shape → (left : ℕ → ℕ) → Type 0
Within shape left = (s : ℕ) → s < shape.n → left s ≤ each shape.size s

-- the losses left in state q in a table that has six entries a state
abbrev pub entry_of : (digits : List ℕ) (q : ℕ) → ℕ → ℕ
entry_of digits q s = get_or digits (q * 6 + s) 0

-- a table of the losses left in each state
pub record Digits (shape : Shape) (digits : List ℕ) : Type 0 where
  pub long : shape.states * 6 ≤ length digits
  pub entry : (left : ℕ → ℕ) → Within shape left → (s : ℕ) → s < shape.n
      → entry_of digits (state_of shape left) s ≡ left s

-- the losses left in state q are set in it; what comes before them is unchanged
pub record PutAt (q : ℕ) (left entry exit : List ℕ) : Type 0 where
  pub long : length exit ≡ length entry
  pub before : (i : ℕ) → i < q * 6 → get_or exit i 0 ≡ get_or entry i 0
  pub here : (s : ℕ) → s < 6 → get_or exit (q * 6 + s) 0 ≡ get_or left s 0
