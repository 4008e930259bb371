-- Loss patterns (document 01, "Steps of the source"): "a loss pattern holds one count for each block and their sum";
-- the rows under the first counts of one; and which blocks of a pattern are left to the loss tables.
use Rattle.std.specs.Prelude.{ℕ, ◌+◌, ◌-◌, ◌*◌, ◌<◌, ◌≤◌, ◌≡◌, List, length, get_or, take, drop, set}
use Rattle.bits.specs.Bits.{most_chunks}
use Rattle.message.specs.Layout.{row_bits, block_bits}
use Rattle.message.specs.declared.Layout.{Layout}
use Rattle.consistent.specs.Greedy.{losses, in_all}
use Rattle.lines.specs.Lines.{values}
use Rattle.column.specs.declared.Heavy.{Heavy}

-- the row x is under the first i counts: they are its own losses, block by block, and its blocks with none or one loss
-- are those in hand
pub record Under (l : Layout) (y counts : List ℕ) (i : ℕ) (row x : List ℕ) : Type 0 where
  pub own : (b : ℕ) → b ≤ i → losses (take (b * block_bits l) x) y ≡ in_all (take b counts)
  pub light : (b j : ℕ) → b < i → j < l.l2 → get_or counts b 0 ≤ 1
      → get_or (values l x) (b * l.l2 + j) 0 ≡ get_or row (b * l.l2 + j) 0

-- the losses of block i of the row x itself, where the blocks before it lost so many
abbrev pub lost_in : Layout → (y : List ℕ) (i total : ℕ) (x : List ℕ) → ℕ
lost_in l y i total x = losses (take (block_bits l) (drop (i * block_bits l) x)) (drop (i * block_bits l - total) y)

-- the heavy blocks among the first i, those with two losses or more, in ascending order: each with its losses and those
-- up to its end
pub record HeavyIn (counts : List ℕ) (i : ℕ) (heavy : Heavy) (left : List ℕ) : Type 0 where
  pub few : heavy.n * 2 ≤ in_all (take i counts)
  pub inside : (s : ℕ) → s < heavy.n → get_or heavy.block s 0 < i
  pub ascending : (s t : ℕ) → s < t → t < heavy.n → get_or heavy.block s 0 < get_or heavy.block t 0
  pub lost : (s : ℕ) → s < heavy.n → get_or left s 0 ≡ get_or counts (get_or heavy.block s 0) 0
  pub many : (s : ℕ) → s < heavy.n → 2 ≤ get_or left s 0
  pub spare : (s : ℕ) → heavy.n ≤ s → get_or left s 0 ≡ 0
  pub end : (s : ℕ) → s < heavy.n → get_or heavy.end s 0 ≡ in_all (take (get_or heavy.block s 0 + 1) counts)
  pub every : (b : ℕ) → b < i → 2 ≤ get_or counts b 0 → (s : ℕ) × ((s < heavy.n) × (get_or heavy.block s 0 ≡ b))
  pub total : in_all left ≤ in_all (take i counts)

-- one heavy block more: block i with a losses, and so many up to its end, in the first free of six places
pub record Joined (heavy : Heavy) (left : List ℕ) (i a e : ℕ) (after : Heavy) (leftAfter : List ℕ) : Type 0 where
  pub places : (length heavy.block ≡ 6) × ((length heavy.end ≡ 6) × (length left ≡ 6))
  pub one_more : after.n ≡ heavy.n + 1
  pub blocks : after.block ≡ set heavy.block heavy.n i
  pub ends : after.end ≡ set heavy.end heavy.n e
  pub lefts : leftAfter ≡ set left heavy.n a

-- where a search stands once the first i blocks have their counts: these lost the total, which is no more than all
-- losses, and the rest of the received row starts at block i
pub record Begun (l : Layout) (y rest counts row : List ℕ) (i total : ℕ) : Type 0 where
  pub sums : total ≡ in_all (take i counts)
  pub most : total + length y ≤ row_bits l
  pub before : total ≤ i * block_bits l
  pub reads : rest ≡ drop (i * block_bits l - total) y
  pub hand : length row ≡ most_chunks
