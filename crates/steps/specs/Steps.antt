-- The steps over one column from a loss state: one of the choices is picked for each heavy block, from the last to the
-- first. With each go what the chunks bring to the column's sum, and in how many of them a row can differ from another
-- one.
use Rattle.std.specs.Prelude.{ℕ, zero, suc, ◌+◌, ◌*◌, ◌%◌, ◌<◌, ◌≤◌, ◌≡◌, cond, ◌⊎◌, List, eqb, length, get_or}
use Rattle.bits.specs.Bits.{longest_line}
use Rattle.message.specs.declared.Layout.{Layout}
use Rattle.states.specs.States.{stride, each, firsts, most_states, Shaped}
use Rattle.states.specs.declared.Shape.{Shape}
use Rattle.weigh.specs.Weigh.{brought, chunk_top}
use Rattle.column.specs.Column.{value_at}
use Rattle.column.specs.declared.Heavy.{Heavy}
use Rattle.choices.specs.Choices.{adds_of, least_of, most_of, other_of, Small}
use Rattle.steps.specs.declared.Stand.{Stand}

-- a mark is at least another one and so many chunks more, or as high as marks go
abbrev pub Above : (there apart mark : ℕ) → Type 0
Above there apart mark = (there + apart ≤ mark) ⊎ (255 ≤ mark)

-- marks only rise
pub record Raises (entry exit : List ℕ) : Type 0 where
  pub long : length exit ≡ length entry
  pub grows : (i : ℕ) → get_or entry i 0 ≤ get_or exit i 0

-- 1 for a mark, 0 for none
abbrev pub one_if : ℕ → ℕ
one_if mark = cond (eqb mark 0) 0 1

-- how many of the states below q are marked, of the marks from a place on
unfoldable pub marked_below : (marks : List ℕ) (at q : ℕ) → ℕ
marked_below marks at zero = 0
marked_below marks at (suc q) = marked_below marks at q + one_if (get_or marks (at + q) 0)

-- counts of the marked states below each, of the marks from a place on
abbrev pub Counts : (marks : List ℕ) (at states : ℕ) (some : List ℕ) → Type 0
Counts marks at states some = (q : ℕ) → q ≤ states → get_or some q 0 ≡ marked_below marks at q

-- the marks of the loss states, from a place on, and the counts of those that are marked
pub record Counted (shape : Shape) (marks : List ℕ) (at : ℕ) (some : List ℕ) : Type 0 where
  pub marked : at + shape.states ≤ length marks
  pub long-some : shape.states < length some
  pub counted : Counts marks at shape.states some

-- what the first s heavy blocks bring to the sum of chunk-string j in a row with the chunks vs
abbrev pub brought_in : Layout → Heavy → (vs : List ℕ) (j s : ℕ) → ℕ
brought_in l heavy vs j s = brought l.nc heavy.block (value_at l heavy vs j) s

-- ---- picks
-- what one number of each choice that is picked adds up to, over the first s blocks
abbrev pub added_by : (of pick : ℕ → ℕ) (s : ℕ) → ℕ
added_by of pick s = firsts (λ b. of (pick b)) s

-- a choice is picked for each of the first s blocks: block b has those from entry b of a list on, below the next entry
abbrev pub Picks : (from : List ℕ) (pick : ℕ → ℕ) (s : ℕ) → Type 0
Picks from pick s = (b : ℕ) → b < s → (get_or from b 0 ≤ pick b) × (pick b < get_or from (b + 1) 0)

-- all that a sweep reads: the choices of the blocks, the loss states, what is needed, and the marks of the states after
-- the column
pub record Ground (choices from : List ℕ) (shape : Shape) (modulus need : ℕ) (marks : List ℕ) (at : ℕ)
    (some fresh : List ℕ) : Type 0 where
  pub few : shape.n ≤ 6
  pub shaped : Shaped shape.n shape.size shape.stride shape.states
  pub states : shape.states ≤ most_states
  pub counted : Counted shape marks at some
  pub long-fresh : shape.states ≤ length fresh
  pub below : need < modulus
  pub high : modulus ≤ longest_line + 1
  pub listed : (b t : ℕ) → b < shape.n → get_or from b 0 ≤ t → t < get_or from (b + 1) 0
      → (4 * t + 4 ≤ length choices) × Small choices (each shape.size b * stride (each shape.size) b) t

-- the numbers of where a sweep stands are small
pub record Low (stand : Stand) : Type 0 where
  pub q_low : stand.q ≤ most_states
  pub least-low : stand.span.low ≤ 6 * chunk_top
  pub most-low : stand.span.high ≤ 6 * chunk_top
  pub apart_low : stand.apart ≤ 6

-- where a sweep stands: the blocks from s on have their choices, which add up to a number that leaves room for those of
-- the others
pub record Stands (shape : Shape) (s : ℕ) (stand : Stand) : Type 0 where
  pub inside : s ≤ shape.n
  pub room : stand.q + stride (each shape.size) s ≤ shape.states
  pub least : stand.span.low + s * chunk_top ≤ shape.n * chunk_top
  pub most : stand.span.high + s * chunk_top ≤ shape.n * chunk_top
  pub others : stand.apart + s ≤ shape.n

-- choice t is picked too
pub record With (choices : List ℕ) (t : ℕ) (stand wider : Stand) : Type 0 where
  pub q_is : wider.q ≡ stand.q + adds_of choices t
  pub least_is : wider.span.low ≡ stand.span.low + least_of choices t
  pub most_is : wider.span.high ≡ stand.span.high + most_of choices t
  pub apart_is : wider.apart ≡ stand.apart + other_of choices t

-- where what is needed can be brought, the fresh mark of the state at which a sweep ends, if that is marked, is at least
-- the one there and the chunks that can be others
abbrev pub Ends : (modulus need there : ℕ) (marks : List ℕ) (at : ℕ) (stand : Stand) (fresh : List ℕ) → Type 0
Ends modulus need there marks at stand fresh =
    (n : ℕ) → stand.span.low ≤ 2 * n → 2 * n ≤ stand.span.high → n % modulus ≡ need
    → 0 < get_or marks (at + stand.q) 0 → Above there stand.apart (get_or fresh stand.q 0)

-- so it is with all that is picked: the choices so far, and those of the first s blocks
pub record Gains (choices : List ℕ) (modulus need there : ℕ) (marks : List ℕ) (at s : ℕ) (stand : Stand) (fresh : List ℕ)
    (pick : ℕ → ℕ) : Type 0 where
  pub above : (n : ℕ) → stand.span.low + added_by (least_of choices) pick s ≤ 2 * n
      → 2 * n ≤ stand.span.high + added_by (most_of choices) pick s
      → n % modulus ≡ need
      → 0 < get_or marks (at + (stand.q + added_by (adds_of choices) pick s)) 0
      → Above there (stand.apart + added_by (other_of choices) pick s)
      (get_or fresh (stand.q + added_by (adds_of choices) pick s) 0)
