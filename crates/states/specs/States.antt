-- Loss states: how many losses each of a few blocks has left, as one number of mixed radix.
use Rattle.std.specs.Prelude.{ℕ, zero, suc, ◌+◌, ◌*◌, ◌<◌, ◌≤◌, ◌≡◌, List, length, get_or}
use Rattle.states.specs.declared.Shape.{Shape}

-- what a loss of block s counts in the number of a state, where block t has at most size t losses
unfoldable pub stride : (size : ℕ → ℕ) → ℕ → ℕ
stride size zero = 1
stride size (suc s) = stride size s * (size s + 1)

-- the number of the state in which block s has left s losses left
unfoldable pub state : (size left : ℕ → ℕ) (n : ℕ) → ℕ
unfolding stride
state size left zero = 0
state size left (suc n) = state size left n + left n * stride size n

-- the losses that block s has at most, or has left, in a list of them
abbrev pub each : List ℕ → ℕ → ℕ
each xs s = get_or xs s 0

-- the most loss states whose marks are kept
abbrev pub most_states : ℕ
most_states = 729

-- the numbers of losses that tables tell apart, none to twelve
abbrev pub lefts : ℕ
lefts = 13

-- a shape of the loss states of n blocks: what a loss counts in each block, and the number of states
pub record Shaped (n : ℕ) (size strides : List ℕ) (states : ℕ) : Type 0 where
  pub counts : (s : ℕ) → s < n → get_or strides s 0 ≡ stride (each size) s
  pub all : states ≡ stride (each size) n

-- the number of the state of a shape in which block s has left s losses left
abbrev pub state_of : Shape → (left : ℕ → ℕ) → ℕ
state_of shape left = state (each shape.size) left shape.n

-- f summed over the first n blocks
unfoldable pub firsts : (f : ℕ → ℕ) (n : ℕ) → ℕ
firsts f zero = 0
firsts f (suc n) = firsts f n + f n

-- where a table that has a value for each block and each number of losses left has that of block s with e left
abbrev pub entry_at : (s e : ℕ) → ℕ
entry_at s e = s * lefts + e

-- it has so many entries
abbrev pub entries : ℕ
entries = 78

-- what the values of the first n blocks add up to, where block s has left s losses left
abbrev pub added_up : (values : List ℕ) (left : ℕ → ℕ) (n : ℕ) → ℕ
added_up values left n = firsts (λ s. get_or values (entry_at s (left s)) 0) n

-- a table of values for the blocks of a shape, which have few losses: there is room for all, and the values are small
pub record Valued (shape : Shape) (values : List ℕ) : Type 0 where
  pub few : (s : ℕ) → s < shape.n → each shape.size s < lefts
  pub long : entry_at shape.n 0 ≤ length values
  pub small : (s e : ℕ) → s < shape.n → e ≤ each shape.size s → get_or values (entry_at s e) 0 ≤ 1000

-- each of the first len entries, with v added, stands from an entry on, and the others as they did
pub record Raised (to len v : ℕ) (entry exit : List ℕ) : Type 0 where
  pub put : (p : ℕ) → p < len → get_or exit (to + p) 0 ≡ get_or entry p 0 + v
  pub below : (i : ℕ) → i < to → get_or exit i 0 ≡ get_or entry i 0
  pub behind : (i : ℕ) → to + len ≤ i → get_or exit i 0 ≡ get_or entry i 0

-- the first len sums with a block more: for each number of its losses left they stand once, with that number's value
pub record WithBlock (len size at : ℕ) (values entry exit : List ℕ) : Type 0 where
  pub put : (e p : ℕ) → e ≤ size → p < len → get_or exit (e * len + p) 0 ≡ get_or entry p 0 + get_or values (at + e) 0
