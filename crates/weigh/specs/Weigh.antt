-- What chunks that lost bits can bring to the sum of their line, a chunk-string or a block: the chunk at place i of the
-- line, its `block`, brings the total of the positions of its ones there, which are i * nc higher than those in the
-- chunk.
use Rattle.std.specs.Prelude.{ℕ, zero, suc, ◌+◌, ◌-◌, ◌*◌, ◌^◌, ◌<◌, ◌≤◌, ◌≡◌, List, length, get_or, take, drop}
use Rattle.bits.specs.Bits.{AllBits, longest, longest_line, digits}
use Rattle.vt.specs.Ones.{ones}
use Rattle.vt.specs.Sum.{total}
use Rattle.windows.specs.Windows.{Tables}
use Rattle.consistent.specs.Greedy.{losses}
use Rattle.weigh.specs.declared.Chunks.{Chunks}
use Rattle.weigh.specs.declared.Seen.{Seen}
use Rattle.weigh.specs.declared.Span.{Span}

-- chunk s can be the number vs s: the bits that it takes are there, and it loses just its count against the received
-- row from its place on
pub record Can (nc : ℕ) (y : List ℕ) (chunks : Chunks) (vs : ℕ → ℕ) : Type 0 where
  pub small : (s : ℕ) → s < chunks.n → vs s < 2 ^ nc
  pub few : (s : ℕ) → s < chunks.n → get_or chunks.lost s 0 ≤ nc
  pub there : (s : ℕ) → s < chunks.n → get_or chunks.place s 0 + nc ≤ length y + get_or chunks.lost s 0
  pub loses : (s : ℕ) → s < chunks.n
      → losses (digits nc (vs s)) (drop (get_or chunks.place s 0) y) ≡ get_or chunks.lost s 0

-- what the first n chunks bring, chunk s being the number vs s and standing in the block that is entry s of a list
unfoldable pub brought : (nc : ℕ) (block : List ℕ) (vs : ℕ → ℕ) (n : ℕ) → ℕ
unfolding total digits
brought nc block vs zero = 0
brought nc block vs (suc s) = brought nc block vs s + total (get_or block s 0 * nc + 1) (digits nc (vs s))

-- more than twice what a chunk can bring: it has at most 8 ones, at positions up to 2,048
abbrev pub chunk_top : ℕ
chunk_top = 40000

-- chunks that can be weighed: the tables are those of the received row, and the rest is as small as a layout has it
pub record Weighable (nc modulus : ℕ) (y totals counts : List ℕ) (chunks : Chunks) (need : ℕ) : Type 0 where
  pub short : nc ≤ 8
  pub modulus-high : modulus ≤ longest_line + 1
  pub bits : AllBits y
  pub received : length y ≤ longest
  pub tables : Tables y 0 totals counts
  pub most : chunks.n ≤ 6
  pub below : need < modulus

-- the bits that a chunk of nc bits did not lose are there, from a place of m bits on
abbrev pub There : (nc m place lost : ℕ) → Type 0
There nc m place lost = (lost ≤ nc) × (place + nc ≤ m + lost)

-- the ones of a string of w bits, and the total of their positions
pub record SeenIn (x : List ℕ) (w : ℕ) (seen : Seen) : Type 0 where
  pub count : seen.ones ≡ ones x
  pub positions : seen.total ≡ total 1 x
  pub count_small : seen.ones ≤ w
  pub positions-small : seen.total ≤ w * w

-- a string that takes the next w bits from a place on and loses so many has at least first and at most last ones more
-- than these
pub record MoreOnes (y : List ℕ) (place w lost first last : ℕ) : Type 0 where
  pub least : (v : List ℕ) → AllBits v → length v ≡ w + lost → losses v (drop place y) ≡ lost
      → ones (take w (drop place y)) + first ≤ ones v
  pub most : (v : List ℕ) → AllBits v → length v ≡ w + lost → losses v (drop place y) ≡ lost
      → ones v ≤ ones (take w (drop place y)) + last
  pub few : last ≤ lost
  pub low : first ≤ lost

-- what the first s chunks bring lies, doubled, in a span
pub record Within (nc : ℕ) (chunks : Chunks) (vs : ℕ → ℕ) (s : ℕ) (span : Span) : Type 0 where
  pub low : span.low ≤ 2 * brought nc chunks.block vs s
  pub high : 2 * brought nc chunks.block vs s ≤ span.high

-- a span with one chunk more, which stands behind so many positions and has g ones more than were received of it: twice
-- the total of their positions with the lost ones in front of the received bits and the lost zeros behind, and the
-- other way round
pub record Wider (nc before lost : ℕ) (seen : Seen) (g : ℕ) (span wider : Span) : Type 0 where
  pub low : wider.low ≡ span.low + 2 * (before * (seen.ones + g) + seen.total) + g * (2 * seen.ones + g + 1)
  pub high : wider.high ≡ span.high + 2 * (before * (seen.ones + g) + seen.total) + 2 * ((lost - g) * seen.ones)
      + g * (2 * nc + 1 - g)
  pub low_small : wider.low ≤ span.low + chunk_top
  pub high_small : wider.high ≤ span.high + chunk_top
