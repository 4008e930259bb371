-- The sums of short blocks: what the chunks of a heavy block can still bring to its sum, as a set of residues, where each
-- chunk is one that its column allows.
use Rattle.std.specs.Prelude.{ℕ, ◌+◌, ◌-◌, ◌*◌, ◌%◌, ◌^◌, ◌<◌, ◌≤◌, ◌≡◌, cond, List, eqb, length, get_or, drop}
use Rattle.bits.specs.Bits.{longest_line, digits}
use Rattle.vt.specs.Sum.{total}
use Rattle.message.specs.declared.Layout.{Layout}
use Rattle.consistent.specs.Greedy.{losses}
use Rattle.lines.specs.Lines.{line}
use Rattle.contents.specs.Contents.{Among}
use Rattle.residues.specs.Residues.{Has}
use Rattle.states.specs.States.{firsts, entries, entry_at}
use Rattle.weigh.specs.declared.Chunks.{Chunks}
use Rattle.column.specs.Column.{chunk_at}
use Rattle.column.specs.declared.Heavy.{Heavy}
use Rattle.sums.specs.declared.Beside.{Beside}

-- a layout whose blocks and chunk-strings are short: the residues of their sums are the bits of a word
pub record Short (l : Layout) : Type 0 where
  pub blocks : l.l2 * l.nc ≤ 62
  pub strings : l.l1 * l.nc ≤ 62

-- the sum of a block is below this
abbrev pub block_modulus : Layout → ℕ
block_modulus l = l.l2 * l.nc + 1

-- what heavy block s brings to its total from column c on
abbrev pub rest : Layout → Heavy → (vs : List ℕ) (c s : ℕ) → ℕ
rest l heavy vs c s = total (c * l.nc + 1) (line l.nc (chunk_at l heavy c s) 1 (l.l2 - c) vs)

-- the sets hold what the heavy blocks of a row with the chunks vs bring to their sums from column c on
abbrev pub Holds : Layout → Heavy → (sets vs : List ℕ) (c : ℕ) → Type 0
Holds l heavy sets vs c =
    Short l → (s : ℕ) → s < heavy.n → Has (block_modulus l) (get_or sets s 0) (rest l heavy vs c s)

-- a table that has for each column one with an entry for each heavy block and each number of losses left has here that of
-- heavy block s with so many left at the start of column c
abbrev pub rest_at : (c s left : ℕ) → ℕ
rest_at c s left = c * entries + entry_at s left

-- the table holds, from column low on, what the heavy blocks of a row with the chunks vs and the losses own left bring
abbrev pub HoldsFrom : Layout → Heavy → (rests vs : List ℕ) (own : ℕ → ℕ → ℕ) (low : ℕ) → Type 0
HoldsFrom l heavy rests vs own low =
    Short l → (c s : ℕ) → low ≤ c → c ≤ l.l2 → s < heavy.n
    → Has (block_modulus l) (get_or rests (rest_at c s (own c s)) 0) (rest l heavy vs c s)

-- ---- contents
-- a position of a line, and a modulus whose residues are the bits of a word
abbrev pub Weighs : (nc m first : ℕ) → Type 0
Weighs nc m first = (nc ≤ 8) × (((1 ≤ m) × (m ≤ 63)) × ((1 ≤ first) × (first ≤ longest_line + 1)))

-- the number v completes a chunk's column: its others can bring so much that the column has its sum with it
abbrev pub Completes : (nc : ℕ) (beside : Beside) (v : ℕ) → Type 0
Completes nc beside v =
    (a : ℕ) × (Has beside.modulus beside.others a
    × ((a + total beside.first (digits nc v)) % beside.modulus ≡ beside.want))

-- the contents that the first n chunks can be are listed one behind the other, those of chunk s from its entry on
pub record Listing (nc : ℕ) (y : List ℕ) (chunks : Chunks) (list from : List ℕ) (n : ℕ) : Type 0 where
  pub order : (s : ℕ) → s ≤ n → get_or from s 0 ≤ get_or from n 0
  pub few : get_or from n 0 ≤ 256 * n
  pub all : (s w : ℕ) → s < n → get_or chunks.place s 0 ≤ length y → w < 2 ^ nc
      → losses (digits nc w) (drop (get_or chunks.place s 0) y) ≡ get_or chunks.lost s 0
      → Among list (get_or from s 0) (get_or from (s + 1) 0) w

-- what the first n chunks of a column but that of heavy block s bring to its total, chunk b being the number vs b
abbrev pub others_bring : (nc : ℕ) (block : List ℕ) (vs : ℕ → ℕ) (s n : ℕ) → ℕ
others_bring nc block vs s n = firsts (λ b. cond (eqb b s) 0 (total (get_or block b 0 * nc + 1) (digits nc (vs b)))) n
