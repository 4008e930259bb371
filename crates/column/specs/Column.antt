-- One column of a row: its chunks in the heavy blocks, those with two losses or more, are read from the received row at
-- a loss state, its other chunks are in hand; and what holds of a row that crosses a column from one loss state to
-- another.
use Rattle.std.specs.Prelude.{ℕ, zero, suc, ◌+◌, ◌-◌, ◌*◌, ◌^◌, ◌<◌, ◌≤◌, ◌≡◌, true, List, length, get_or, set, drop}
use Rattle.bits.specs.Bits.{AllBits, longest, digits, number}
use Rattle.vt.specs.Sum.{sum}
use Rattle.message.specs.Layout.{legal}
use Rattle.message.specs.declared.Layout.{Layout}
use Rattle.consistent.specs.Greedy.{losses}
use Rattle.lines.specs.Lines.{line, unlike}
use Rattle.weigh.specs.declared.Chunks.{Chunks}
use Rattle.column.specs.declared.Heavy.{Heavy}
use Rattle.column.specs.declared.Place.{Place}

-- heavy blocks of a layout, in ascending order, with a received row and the sums
pub record Fit (l : Layout) (y numbers : List ℕ) (heavy : Heavy) : Type 0 where
  pub allowed : legal l ≡ true
  pub bits : AllBits y
  pub short : length y ≤ longest
  pub sums : l.l1 + l.l2 ≤ length numbers
  pub low : (j : ℕ) → j < l.l2 → get_or numbers (l.l1 + j) 0 ≤ l.l1 * l.nc
  pub few : heavy.n ≤ 6
  pub inside : (s : ℕ) → s < heavy.n → get_or heavy.block s 0 < l.l1
  pub ascending : (s t : ℕ) → s < t → t < heavy.n → get_or heavy.block s 0 < get_or heavy.block t 0

-- the chunk of heavy block s in column j
abbrev pub chunk_at : Layout → Heavy → (j s : ℕ) → ℕ
chunk_at l heavy j s = get_or heavy.block s 0 * l.l2 + j

-- its number in a row with the chunks vs
abbrev pub value_at : Layout → Heavy → (vs : List ℕ) (j s : ℕ) → ℕ
value_at l heavy vs j s = get_or vs (chunk_at l heavy j s) 0

-- the bits that the chunk of a block in column j is matched against, with so many losses left, start here, plus the losses
-- up to the end of the block
abbrev pub start_at : Layout → (block j left : ℕ) → ℕ
start_at l block j left = (block * l.l2 + j) * l.nc + left

-- so it is with that of heavy block s
abbrev pub read_from : Layout → Heavy → (left : ℕ → ℕ) (j s : ℕ) → ℕ
read_from l heavy left j s = start_at l (get_or heavy.block s 0) j (left s)

-- the row in hand with the numbers v of the first k heavy blocks in column j
unfoldable pub filled : Layout → Heavy → (v : ℕ → ℕ) (j k : ℕ) (row : List ℕ) → List ℕ
filled l heavy v j zero row = row
filled l heavy v j (suc s) row = set (filled l heavy v j s row) (chunk_at l heavy j s) (v s)

-- of a list, n entries from a place on are zero, and the others are as they were
pub record Zeroed (n at : ℕ) (old new : List ℕ) : Type 0 where
  pub size : length new ≡ length old
  pub zeros : (i : ℕ) → i < n → get_or new (at + i) 0 ≡ 0
  pub others : (c : ℕ) → ((i : ℕ) → i < n → c ≡ at + i → ⊥) → get_or new c 0 ≡ get_or old c 0

-- in every column, the row in hand with the chunks of the first k heavy blocks as zero
abbrev pub Cleared : Layout → Heavy → (k : ℕ) (row new : List ℕ) → Type 0
Cleared l heavy k row new =
    (j i : ℕ) → j < l.l2 → i < l.l1
    → get_or new (j + i * l.l2) 0 ≡ get_or (filled l heavy (λ s. 0) j k row) (j + i * l.l2) 0

-- the sums of the chunk-strings where the chunks of the heavy blocks count as zero
abbrev pub Light : Layout → Heavy → (row known : List ℕ) → Type 0
Light l heavy row known =
    (j : ℕ) → j < l.l2
    → get_or known j 0 ≡ sum (line l.nc j l.l2 l.l1 (filled l heavy (λ s. 0) j heavy.n row))

-- a row with the chunks vs crosses column j: at its start heavy block s has left s losses left, after it next s; so its
-- chunk there loses left s - next s bits, the chunks of the other blocks are in hand, and the chunk-string has its sum
pub record Crosses (l : Layout) (y numbers : List ℕ) (heavy : Heavy) (row : List ℕ) (j : ℕ) (left next : ℕ → ℕ)
    (vs : List ℕ) : Type 0 where
  pub falls : (s : ℕ) → s < heavy.n → next s ≤ left s
  pub few : (s : ℕ) → s < heavy.n → left s ≤ next s + l.nc
  pub starts : (s : ℕ) → s < heavy.n → get_or heavy.end s 0 ≤ read_from l heavy left j s
  pub there : (s : ℕ) → s < heavy.n
      → read_from l heavy left j s + l.nc + next s ≤ length y + get_or heavy.end s 0 + left s
  pub small : (s : ℕ) → s < heavy.n → value_at l heavy vs j s < 2 ^ l.nc
  pub loses : (s : ℕ) → s < heavy.n
      → losses (digits l.nc (value_at l heavy vs j s)) (drop (read_from l heavy left j s - get_or heavy.end s 0) y)
      ≡ left s - next s
  pub others : (i : ℕ) → i < l.l1 → ((s : ℕ) → s < heavy.n → get_or heavy.block s 0 ≡ i → ⊥)
      → get_or vs (i * l.l2 + j) 0 ≡ get_or row (i * l.l2 + j) 0
  pub has_sum : sum (line l.nc j l.l2 l.l1 vs) ≡ get_or numbers (l.l1 + j) 0

-- in how many of the first n heavy blocks the chunk of column j is another than in z
unfoldable pub apart_in : Layout → Heavy → (z vs : List ℕ) (j n : ℕ) → ℕ
apart_in l heavy z vs j zero = 0
apart_in l heavy z vs j (suc s) = apart_in l heavy z vs j s + unlike vs z (chunk_at l heavy j s)

-- a chunk of nc bits can be matched against a received row of so many bits: it loses no more bits than it has, and the
-- bits that it takes are there; they start at from, less the losses up to the end of its block
pub record Readable (nc size from end left next : ℕ) : Type 0 where
  pub falls : next ≤ left
  pub few : left ≤ next + nc
  pub starts : end ≤ from
  pub there : from + nc + next ≤ size + end + left

-- where chunk j of a block is read: wherever it can be matched it is found to be, and then at its place
pub record PlaceOf (l : Layout) (size block j end left next : ℕ) (p : Place) : Type 0 where
  pub found : Readable l.nc size (start_at l block j left) end left next → p.ok ≡ true
  pub at_just : p.ok ≡ true → p.at ≡ start_at l block j left - end
  pub lost_just : p.ok ≡ true → p.lost ≡ left - next
  pub few : p.ok ≡ true → p.lost ≤ l.nc
  pub within : p.ok ≡ true → p.at + l.nc ≤ size + p.lost

-- so it is with the chunk of heavy block s in column j
abbrev pub readable : Layout → (size : ℕ) → Heavy → (j : ℕ) (left next : ℕ → ℕ) (s : ℕ) → Type 0
readable l size heavy j left next s =
    Readable l.nc size (read_from l heavy left j s) (get_or heavy.end s 0) (left s) (next s)

-- the bits that the chunks of the heavy blocks take are there
abbrev pub Within : Layout → (size : ℕ) → Heavy → Chunks → Type 0
Within l size heavy chunks =
    (s : ℕ) → s < heavy.n → get_or chunks.place s 0 + l.nc ≤ size + get_or chunks.lost s 0

-- the chunks of the heavy blocks in column j, where they are read
pub record Placed (l : Layout) (size : ℕ) (heavy : Heavy) (j : ℕ) (left next : ℕ → ℕ) (chunks : Chunks) : Type 0 where
  pub count : chunks.n ≡ heavy.n
  pub blocks : chunks.block ≡ heavy.block
  pub place : (s : ℕ) → s < heavy.n → get_or chunks.place s 0 ≡ read_from l heavy left j s - get_or heavy.end s 0
  pub lost : (s : ℕ) → s < heavy.n → get_or chunks.lost s 0 ≡ left s - next s
  pub within : Within l size heavy chunks

-- in the first n heavy blocks the chunk of column j is as it is read where it lost no bit
abbrev pub AsRead : Layout → (y : List ℕ) → Heavy → Chunks → (vs : List ℕ) (j n : ℕ) → Type 0
AsRead l y heavy chunks vs j n =
    (s : ℕ) → s < n → get_or chunks.lost s 0 ≡ 0
    → value_at l heavy vs j s ≡ number l.nc (drop (get_or chunks.place s 0) y)
