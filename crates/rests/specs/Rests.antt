-- What the chunks of a short heavy block can bring to its sum from a column on, with each number of losses left: a table of
-- sets of residues, filled from the last column to the first.
use Rattle.std.specs.Prelude.{ℕ, ◌+◌, ◌-◌, ◌*◌, ◌^◌, ◌<◌, ◌≤◌, ◌≡◌, true, ◌⊎◌, List, length, get_or, drop}
use Rattle.bits.specs.Bits.{longest, digits}
use Rattle.vt.specs.Sum.{total}
use Rattle.message.specs.Layout.{legal}
use Rattle.message.specs.declared.Layout.{Layout}
use Rattle.consistent.specs.Greedy.{losses}
use Rattle.residues.specs.Residues.{Has}
use Rattle.states.specs.States.{lefts, each, entry_at}
use Rattle.column.specs.Column.{Readable, start_at}
use Rattle.column.specs.declared.Heavy.{Heavy}
use Rattle.sums.specs.Sums.{Short, block_modulus, rest_at}

-- a received row, and a chunk of a block of a short layout
pub record ShortChunk (l : Layout) (y : List ℕ) (block c : ℕ) : Type 0 where
  pub allowed : legal l ≡ true
  pub is_short : Short l
  pub received : length y ≤ longest
  pub inside : block < l.l1
  pub column : c < l.l2

-- the chunk can be the number v, with so much left at its start and after it
pub record CanBe (l : Layout) (y : List ℕ) (block end c left next v : ℕ) : Type 0 where
  pub readable : Readable l.nc (length y) (start_at l block c left) end left next
  pub small : v < 2 ^ l.nc
  pub loses : losses (digits l.nc v) (drop (start_at l block c left - end) y) ≡ left - next

-- the set exit holds what such a chunk brings with what the chunks behind it bring, which the set entry holds
abbrev pub Brings : Layout → (y : List ℕ) (block end c left next entry exit : ℕ) → Type 0
Brings l y block end c left next entry exit =
    (v n : ℕ) → CanBe l y block end c left next v → Has (block_modulus l) entry n
    → Has (block_modulus l) exit (n + total (c * l.nc + 1) (digits l.nc v))

-- the entries of heavy block s in column c are filled for the first n numbers of losses, and all others stay
pub record Filled (l : Layout) (y : List ℕ) (block end c s n : ℕ) (entry exit : List ℕ) : Type 0 where
  pub long : length exit ≡ length entry
  pub others : (i : ℕ) → (i < rest_at c s 0) ⊎ (rest_at c s lefts ≤ i) → get_or exit i 0 ≡ get_or entry i 0
  pub put : (left : ℕ) → left < n → (next : ℕ) → next ≤ left
      → Brings l y block end c left next (get_or entry (rest_at (c + 1) s next) 0) (get_or exit (rest_at c s left) 0)

-- so are those of the first n heavy blocks, and all entries behind the column stay
pub record FilledColumn (l : Layout) (y : List ℕ) (heavy : Heavy) (size : List ℕ) (c n : ℕ) (entry exit : List ℕ)
    : Type 0 where
  pub long : length exit ≡ length entry
  pub behind : (i : ℕ) → rest_at (c + 1) 0 0 ≤ i → get_or exit i 0 ≡ get_or entry i 0
  pub put : (s left next : ℕ) → s < n → left ≤ each size s → next ≤ left
      → Brings l y (get_or heavy.block s 0) (get_or heavy.end s 0) c left next
      (get_or entry (rest_at (c + 1) s next) 0) (get_or exit (rest_at c s left) 0)

-- P holds where a chunk can be left with so many losses: what it brings with those behind it is in a set
abbrev pub Where : Layout → (y : List ℕ) (block end c left set behind next : ℕ) (P : Type 0) → Type 0
Where l y block end c left set behind next P =
    (v n : ℕ) → CanBe l y block end c left next v → Has (block_modulus l) behind n
    → Has (block_modulus l) set (n + total (c * l.nc + 1) (digits l.nc v)) → P

-- of the first n numbers of losses those are marked with which heavy block s can leave column c, where it has so many left
-- at its start and what it is to bring from there on is in a set; and marks stay
pub record Marked (l : Layout) (y : List ℕ) (block end c s left set : ℕ) (rests entry : List ℕ) (n : ℕ) (exit : List ℕ)
    : Type 0 where
  pub long : length exit ≡ length entry
  pub stay : (i : ℕ) → 0 < get_or entry i 0 → 0 < get_or exit i 0
  pub put : (next : ℕ) → next < n
      → Where l y block end c left set (get_or rests (rest_at (c + 1) s next) 0) next (0 < get_or exit (entry_at s next) 0)
