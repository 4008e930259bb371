-- What the chunks of a column bring to the total of their chunk-string where they are read whole.
use Rattle.std.specs.Prelude.{ℕ, ◌+◌, ◌-◌, ◌*◌, ◌<◌, ◌≤◌, ◌≡◌, true, List, length, get_or, take, drop}
use Rattle.bits.specs.Bits.{AllBits, longest}
use Rattle.vt.specs.Sum.{total}
use Rattle.message.specs.Layout.{legal}
use Rattle.message.specs.declared.Layout.{Layout}
use Rattle.windows.specs.Windows.{Tables}
use Rattle.states.specs.States.{each, entry_at}
use Rattle.column.specs.Column.{Readable, start_at}
use Rattle.column.specs.declared.Heavy.{Heavy}

-- the sum of a chunk-string is below this
abbrev pub modulus : Layout → ℕ
modulus l = l.l1 * l.nc + 1

-- a received row with its tables, from which the chunk of a block in column j is read
pub record Source (l : Layout) (y totals counts : List ℕ) (block j : ℕ) : Type 0 where
  pub allowed : legal l ≡ true
  pub bits : AllBits y
  pub short : length y ≤ longest
  pub tables : Tables y 0 totals counts
  pub inside : block < l.l1
  pub column : j < l.l2

-- with e losses left it can be read whole: the next nc bits of a received row of so many bits are there
abbrev pub Legible : Layout → (size block end j e : ℕ) → Type 0
Legible l size block end j e = Readable l.nc size (start_at l block j e) end e e

-- what it brings to the total of its chunk-string where it is read so
unfoldable pub brings : Layout → (y : List ℕ) (block end j e : ℕ) → ℕ
unfolding total
brings l y block end j e = total (block * l.nc + 1) (take l.nc (drop (start_at l block j e - end) y))

-- so it is with heavy block s, where block t has left t losses left
abbrev pub legible_in : Layout → (size : ℕ) → Heavy → (j : ℕ) (left : ℕ → ℕ) (s : ℕ) → Type 0
legible_in l size heavy j left s = Legible l size (get_or heavy.block s 0) (get_or heavy.end s 0) j (left s)

abbrev pub brings_in : Layout → (y : List ℕ) → Heavy → (j : ℕ) (left : ℕ → ℕ) (s : ℕ) → ℕ
brings_in l y heavy j left s = brings l y (get_or heavy.block s 0) (get_or heavy.end s 0) j (left s)

-- of n blocks, block s has one loss left less, and the others have as many
abbrev pub OneLess : (n : ℕ) (left next : ℕ → ℕ) (s : ℕ) → Type 0
OneLess n left next s = (next s + 1 ≡ left s) × ((t : ℕ) → t < n → (t ≡ s → ⊥) → next t ≡ left t)

-- in place of what a chunk brings that cannot be read whole: more than a chunk brings
abbrev pub unread : ℕ
unread = 65535

-- a table of what the chunks of the heavy blocks bring in column j, by the losses left in each, at most its size
abbrev pub Readings : Layout → (y : List ℕ) → Heavy → (size : List ℕ) (j : ℕ) (table : List ℕ) → Type 0
Readings l y heavy size j table =
    (s e : ℕ) → s < heavy.n → e ≤ each size s
    → Legible l (length y) (get_or heavy.block s 0) (get_or heavy.end s 0) j e
    → get_or table (entry_at s e) 0 ≡ brings l y (get_or heavy.block s 0) (get_or heavy.end s 0) j e
