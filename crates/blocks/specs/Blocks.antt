-- A block whose losses are all shared out: its chunks are those in hand but for its open cells, and those behind its
-- last loss are read from the received row. What the open cells bring to its sum is weighed as in a chunk-string, of
-- which the columns are the blocks.
use Rattle.std.specs.Prelude.{ℕ, zero, suc, ◌+◌, ◌-◌, ◌*◌, ◌^◌, ◌<◌, ◌≤◌, ◌≡◌, Bool, true, false, cond, ◌⊎◌, List, eqb, length, get_or, set, drop}
use Rattle.bits.specs.Bits.{digits, number}
use Rattle.vt.specs.Sum.{total, sum}
use Rattle.message.specs.declared.Layout.{Layout}
use Rattle.consistent.specs.Greedy.{losses}
use Rattle.lines.specs.Lines.{line}
use Rattle.cells.specs.Cells.{Open, OpenAt, chunk_of}
use Rattle.cells.specs.declared.Cells.{Cells}
use Rattle.weigh.specs.Weigh.{Can, brought}
use Rattle.blocks.specs.declared.Cut.{Cut}

-- a cell that lost so many bits in a block is open and stands in block i
abbrev pub stands_in : (lost block i : ℕ) → Bool
stands_in lost block i = cond (eqb lost 0) false (eqb block i)

-- so it is with cell z
abbrev pub is_in : Cells → (i z : ℕ) → Bool
is_in cells i z = stands_in (get_or cells.lost z 0) (get_or cells.block z 0) i

-- numbers of chunks with a zero for each of the first k cells that is open and stands in block i
unfoldable pub bare : Layout → Cells → (i k : ℕ) → List ℕ → List ℕ
bare l cells i zero vs = vs
bare l cells i (suc k) vs =
    cond (is_in cells i k) (set (bare l cells i k vs) (i * l.l2 + get_or cells.column k 0) 0) (bare l cells i k vs)

-- the chunks with one more, of a column behind all others
pub record Longer (old : Cut) (j place lost : ℕ) (new : Cut) : Type 0 where
  pub room : old.chunks.n < 6
  pub behind : old.next ≤ j
  pub next : new.next ≡ j + 1
  pub count : new.chunks.n ≡ old.chunks.n + 1
  pub blocks : new.chunks.block ≡ set old.chunks.block old.chunks.n j
  pub places : new.chunks.place ≡ set old.chunks.place old.chunks.n place
  pub losses : new.chunks.lost ≡ set old.chunks.lost old.chunks.n lost

-- the numbers vs have chunks in the open cells of block i that lose just their counts
abbrev pub Lose : Layout → (y : List ℕ) → Cells → (i : ℕ) (vs : List ℕ) → Type 0
Lose l y cells i vs =
    (z : ℕ) → Open cells z → get_or cells.block z 0 ≡ i → (get_or vs (chunk_of l cells z) 0 < 2 ^ l.nc)
    × (losses (digits l.nc (get_or vs (chunk_of l cells z) 0)) (drop (get_or cells.place z 0) y)
    ≡ get_or cells.lost z 0)

-- the numbers of the chunks that are weighed: those of block i in their columns
abbrev pub own_of : Layout → (i : ℕ) → Cut → (vs : List ℕ) → ℕ → ℕ
own_of l i cut vs s = get_or vs (i * l.l2 + get_or cut.chunks.block s 0) 0

-- the total of the positions of the ones of block i
abbrev pub block_total : Layout → (i : ℕ) (vs : List ℕ) → ℕ
block_total l i vs = total 1 (line l.nc (i * l.l2) 1 l.l2 vs)

-- the open cells of block i among the first k are cut out: their columns lie before the next one, and what they bring
-- and the rest of the block are the block's total
pub record CutOut (l : Layout) (y : List ℕ) (cells : Cells) (i k : ℕ) (cut : Cut) : Type 0 where
  pub few : cut.chunks.n ≤ 6
  pub sizes : (length cut.chunks.block ≡ 6) × ((length cut.chunks.place ≡ 6) × (length cut.chunks.lost ≡ 6))
  pub before : (s : ℕ) → s < cut.chunks.n → get_or cut.chunks.block s 0 < cut.next
  pub behind : (vs : List ℕ) (c : ℕ) → cut.next ≤ c → c < l.l2
      → get_or (bare l cells i k vs) (i * l.l2 + c) 0 ≡ get_or vs (i * l.l2 + c) 0
  pub can : (vs : List ℕ) → Lose l y cells i vs → Can l.nc y cut.chunks (own_of l i cut vs)
  pub whole : (vs : List ℕ)
      → block_total l i (bare l cells i k vs) + brought l.nc cut.chunks.block (own_of l i cut vs) cut.chunks.n
      ≡ block_total l i vs

-- chunk c of block i is read whole, end bits being lost before it
pub record Later (l : Layout) (y : List ℕ) (i end c : ℕ) (vs : List ℕ) : Type 0 where
  pub starts : end ≤ (i * l.l2 + c) * l.nc
  pub there : (i * l.l2 + c) * l.nc + l.nc ≤ length y + end
  pub as_read : get_or vs (i * l.l2 + c) 0 ≡ number l.nc (drop ((i * l.l2 + c) * l.nc - end) y)

-- the chunks of block i from column j on are put in a row as they are read: each row of numbers that has them so has
-- them there
pub record ReadOn (l : Layout) (y : List ℕ) (i end j : ℕ) (entry exit : List ℕ) (ok : Bool) : Type 0 where
  pub long : length exit ≡ length entry
  pub others : (c : ℕ) → c < j → get_or exit (i * l.l2 + c) 0 ≡ get_or entry (i * l.l2 + c) 0
  pub later : (vs : List ℕ) → ((c : ℕ) → j ≤ c → c < l.l2 → Later l y i end c vs)
      → (ok ≡ true) × ((c : ℕ) → j ≤ c → c < l.l2 → get_or vs (i * l.l2 + c) 0 ≡ get_or exit (i * l.l2 + c) 0)

-- the numbers vs are those of a row whose block i loses no bit from column j on: before it the chunks are those in hand
-- but for the open cells, which lose just their counts, and the block has its sum
pub record Ended (l : Layout) (y numbers : List ℕ) (cells : Cells) (row : List ℕ) (i end j : ℕ) (vs : List ℕ)
    : Type 0 where
  pub decided : (c : ℕ) → c < j → c < l.l2 → OpenAt cells i c ⊎ (get_or vs (i * l.l2 + c) 0 ≡ get_or row (i * l.l2 + c) 0)
  pub lose : Lose l y cells i vs
  pub later : (c : ℕ) → j ≤ c → c < l.l2 → Later l y i end c vs
  pub has_sum : sum (line l.nc (i * l.l2) 1 l.l2 vs) ≡ get_or numbers i 0
