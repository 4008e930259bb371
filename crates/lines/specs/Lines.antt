-- A row as the numbers of its chunks, and the lines of chunks that have a sum: a block is a line of neighbouring
-- chunks, a chunk-string a line of every l2-th chunk (document 01, "Rows, blocks, chunks").
use Rattle.std.specs.Prelude.{ℕ, zero, suc, ◌+◌, ◌*◌, ◌^◌, ◌<◌, ◌≤◌, ◌≡◌, true, cond, List, [], ◌++◌, map, eqb, get_or}
use Rattle.bits.specs.Bits.{most_in_line, longest_line, number, digits}
use Rattle.rows.specs.Deletion.{comes_from}
use Rattle.vt.specs.Sum.{sum}
use Rattle.message.specs.Layout.{chunks}
use Rattle.message.specs.declared.Layout.{Layout}

-- "a chunk is also a number, first bit highest": the chunks of a row as numbers, "in row order"
unfoldable pub values : Layout → List ℕ → List ℕ
unfolding chunks number
values l x = map (number l.nc) (chunks l x)

-- 1 where two lists differ at a place, 0 where they do not
abbrev pub unlike : (us vs : List ℕ) → ℕ → ℕ
unlike us vs c = cond (eqb (get_or us c 0) (get_or vs c 0)) 0 1

-- the bits of count chunks, the first of them chunk start, each stride chunks after the last
unfoldable pub line : (nc start stride count : ℕ) → List ℕ → List ℕ
unfolding digits
line nc start stride zero vs = []
line nc start stride (suc n) vs = digits nc (get_or vs start 0) ++ line nc (start + stride) stride n vs

-- a line of chunks of at most 8 bits, at most longest_line bits in all, whose chunks all stand among so many numbers
pub record Inside (nc start stride count size : ℕ) : Type 0 where
  pub nc_high : nc ≤ 8
  pub short : count * nc ≤ longest_line
  pub stride-high : stride ≤ most_in_line
  pub last : start + count * stride < size + stride

-- the numbers us are those of a row whose line lost one bit: beside chunk hole of the line they are the numbers vs in
-- hand, the line has the sum s, and the bits at hand come from chunk hole by one deletion
pub record Mendable (nc start stride count hole s : ℕ) (bits vs us : List ℕ) : Type 0 where
  pub around : (t : ℕ) → t < count → (t ≡ hole → ⊥) → get_or us (start + t * stride) 0 ≡ get_or vs (start + t * stride) 0
  pub has_sum : sum (line nc start stride count us) ≡ s
  pub comes : comes_from (digits nc (get_or us (start + hole * stride) 0)) 1 bits ≡ true
  pub small : get_or us (start + hole * stride) 0 < 2 ^ nc
