-- In how many chunks of the heavy blocks a row that comes through a loss state can differ from another one at most,
-- block by block.
use Rattle.std.specs.Prelude.{ℕ, ◌+◌, ◌-◌, ◌<◌, ◌≤◌, ◌≡◌, Bool, true, false, List, length, get_or}
use Rattle.bits.specs.Bits.{most_in_line}
use Rattle.message.specs.declared.Layout.{Layout}
use Rattle.states.specs.States.{lefts, each, firsts, entry_at}
use Rattle.states.specs.declared.Shape.{Shape}
use Rattle.column.specs.declared.Heavy.{Heavy}
use Rattle.far.specs.Far.{Covered, step_at, block_at}

-- a table of what rows count in each heavy block: ahead, in the columns before each, by the losses used; otherwise from
-- each on, by the losses left
abbrev pub CountedIn : Layout → (y : List ℕ) → Heavy → (z size : List ℕ) (ahead : Bool) (table : List ℕ) → Type 0
CountedIn l y heavy z size ahead table =
    (s : ℕ) → s < heavy.n → Covered l y heavy z s (each size s) ahead (block_at l.l2 s) l.l2 table

-- both tables
pub record Counted (l : Layout) (y : List ℕ) (heavy : Heavy) (z size before after : List ℕ) : Type 0 where
  pub ahead : CountedIn l y heavy z size true before
  pub back : CountedIn l y heavy z size false after

-- a table that has room for the blocks of a shape, each of which has few losses
pub record Sized (columns : ℕ) (shape : Shape) (table : List ℕ) : Type 0 where
  pub narrow : columns ≤ most_in_line
  pub few : shape.n ≤ 6
  pub small : (s : ℕ) → s < shape.n → get_or shape.size s 0 < lefts
  pub long : block_at columns shape.n ≤ length table

-- what the tables say of block s, which has so many losses, where at column j so many are left
abbrev pub most_in : (columns : ℕ) (before after : List ℕ) (s size left j : ℕ) → ℕ
most_in columns before after s size left j =
    get_or before (step_at (block_at columns s) j + (size - left)) 0
    + get_or after (step_at (block_at columns s) (columns - j) + left) 0

-- a table of values has that for e losses left, and it is small
abbrev pub SaysIn : (columns : ℕ) (before after : List ℕ) (s size j : ℕ) (values : List ℕ) (e : ℕ) → Type 0
SaysIn columns before after s size j values e =
    (get_or values (entry_at s e) 0 ≡ most_in columns before after s size e j) × (get_or values (entry_at s e) 0 ≤ 510)

-- what the tables say of the first n blocks together
abbrev pub most : (columns : ℕ) (before after : List ℕ) (size left : ℕ → ℕ) (j n : ℕ) → ℕ
most columns before after size left j n = firsts (λ s. most_in columns before after s (size s) (left s) j) n

-- what the second table says of the first n blocks from column j on, where at its start so many are left
abbrev pub most_after : (columns : ℕ) (after : List ℕ) (left : ℕ → ℕ) (j n : ℕ) → ℕ
most_after columns after left j n =
    firsts (λ s. get_or after (step_at (block_at columns s) (columns - j) + left s) 0) n
