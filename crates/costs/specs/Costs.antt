-- Columns that no row under a pattern crosses without a loss, or with one: the sums that the chunks of a column can have
-- where each is read whole, as a set of residues, and what one chunk with a loss makes of them.
use Rattle.std.specs.Prelude.{ℕ, ◌+◌, ◌-◌, ◌*◌, ◌%◌, ◌^◌, ◌<◌, ◌≤◌, ◌≡◌, Bool, true, cond, List, eqb, length, drop}
use Rattle.bits.specs.Bits.{digits}
use Rattle.vt.specs.Sum.{total}
use Rattle.message.specs.declared.Layout.{Layout}
use Rattle.windows.specs.Windows.{Tables}
use Rattle.consistent.specs.Greedy.{losses}
use Rattle.states.specs.States.{each}
use Rattle.column.specs.Column.{Fit, Light, Crosses, Readable, start_at}
use Rattle.column.specs.declared.Heavy.{Heavy}
use Rattle.whole.specs.Whole.{modulus, legible_in, brings_in}
use Rattle.sets.specs.Sets.{In}

-- ---- a column whose heavy blocks have so many losses left

-- of the first n blocks each but one has no more left than its size, and its chunk can be read whole, in a received row
-- of so many bits
abbrev pub ReadBut : Layout → (bits : ℕ) → Heavy → (size : List ℕ) (j : ℕ) (left : ℕ → ℕ) (but n : ℕ) → Type 0
ReadBut l bits heavy size j left but n =
    (s : ℕ) → s < n → (s ≡ but → ⊥) → (left s ≤ each size s) × legible_in l bits heavy j left s

-- what the chunk of heavy block s brings then, nothing where it is that one
abbrev pub brings_but : Layout → (y : List ℕ) → Heavy → (j : ℕ) (left : ℕ → ℕ) (but s : ℕ) → ℕ
brings_but l y heavy j left but s = cond (eqb s but) 0 (brings_in l y heavy j left s)

-- column j of a received row, its heavy blocks and the sums that its other chunks have, of which something is asked
pub record Asked (l : Layout) (y totals counts numbers : List ℕ) (heavy : Heavy) (known : List ℕ) (j : ℕ) : Type 0 where
  pub fit : Fit l y numbers heavy
  pub tables : Tables y 0 totals counts
  pub light : l.l2 ≤ length known
  pub column : j < l.l2

-- an answer tells of the rows that cross column j: it is yes if one does so in this way
abbrev pub Tells : Layout → (y numbers : List ℕ) → Heavy → (size known : List ℕ) (j : ℕ)
    (way : (left next : ℕ → ℕ) → Type 0) → Bool → Type 0
Tells l y numbers heavy size known j way r =
    (row vs : List ℕ) (left next : ℕ → ℕ) → Light l heavy row known → ((s : ℕ) → s < heavy.n → left s ≤ each size s)
    → Crosses l y numbers heavy row j left next vs → way left next → r ≡ true

-- the chunk of a block in column j, with so many losses left before, lost one bit, its content being v, and brings the
-- column to its sum from a residue of a set
pub record Repairs (l : Layout) (y : List ℕ) (block end j left sum : ℕ) (set : List ℕ) (v part : ℕ) : Type 0 where
  pub low : part < modulus l
  pub among : In set part
  pub small : v < 2 ^ l.nc
  pub readable : Readable l.nc (length y) (start_at l block j left) end left (left - 1)
  pub loses : losses (digits l.nc v) (drop (start_at l block j left - end) y) ≡ 1
  pub hits : (part + total (block * l.nc + 1) (digits l.nc v)) % modulus l ≡ sum
