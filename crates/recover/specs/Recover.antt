-- The open cells as erased chunks: their places, each once.
use Rattle.std.specs.Prelude.{ℕ, ◌+◌, ◌*◌, ◌%◌, ◌^◌, ◌<◌, ◌≤◌, ◌≡◌, List, get_or, drop}
use Rattle.std.specs.Int.Bits.{bit_xor}
use Rattle.field.specs.Field.{check}
use Rattle.message.specs.declared.Layout.{Layout}
use Rattle.erasures.specs.Erasures.{weight}
use Rattle.cells.specs.Cells.{Open, chunk_of}
use Rattle.cells.specs.declared.Cells.{Cells}

-- the open cells stand in the row
abbrev pub OpenInside : Layout → Cells → Type 0
OpenInside l cells =
    (z : ℕ) → Open cells z → (get_or cells.block z 0 < l.l1) × (get_or cells.column z 0 < l.l2)

-- place p is among the first n places
abbrev pub Among : (n : ℕ) (places : List ℕ) (p : ℕ) → Type 0
Among n places p = (w : ℕ) × ((w < n) × (get_or places w 0 ≡ p))

-- chunk c of block i is at one of the first n places
abbrev pub ErasedAt : Layout → (n : ℕ) (places : List ℕ) → (i c : ℕ) → Type 0
ErasedAt l n places i c = Among n places (i * l.l2 + c)

-- the first n places are places of a row of so many chunks, no two of them the same
pub record Spots (n size : ℕ) (places : List ℕ) : Type 0 where
  pub inside : (w : ℕ) → w < n → get_or places w 0 < size
  pub apart : (v w : ℕ) → v < n → w < n → get_or places v 0 ≡ get_or places w 0 → v ≡ w

-- the first n places are those of the chunks that the first k cells leave open, each once; they are no more than the
-- cells that are open
pub record Collected (l : Layout) (cells : Cells) (k n : ℕ) (places : List ℕ) : Type 0 where
  pub few : n ≤ k
  pub no_more : n + weight (drop k cells.lost) ≤ weight cells.lost
  pub spots : Spots n (l.l1 * l.l2) places
  pub all : (z : ℕ) → z < k → Open cells z → Among n places (chunk_of l cells z)
  pub only : (w : ℕ) → w < n → (z : ℕ) × ((z < k) × (Open cells z × (get_or places w 0 ≡ chunk_of l cells z)))

-- the row exit is the row entry with the contents put at the first n places
pub record PutAt (n : ℕ) (places contents entry exit : List ℕ) : Type 0 where
  pub there : (w : ℕ) → w < n → get_or exit (get_or places w 0) 0 ≡ get_or contents w 0
  pub elsewhere : (p : ℕ) → (Among n places p → ⊥) → get_or exit p 0 ≡ get_or entry p 0

-- the numbers s are what is missing of the first n checks among the numbers ns: the field sum of each and that of the
-- chunks vs
abbrev pub Missing : Layout → (n : ℕ) (ns vs s : List ℕ) → Type 0
Missing l n ns vs s =
    (i : ℕ) → i < n → get_or s i 0 ≡ bit_xor (get_or ns (l.l1 + l.l2 + i) 0 % 2 ^ l.nc) (check l.nc i vs)
