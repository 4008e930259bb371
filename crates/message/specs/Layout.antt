-- Layouts, and how a row is cut (document 01, "Rows, blocks, chunks").
use Rattle.std.specs.Prelude.{ℕ, zero, suc, ◌-◌, ◌*◌, ◌^◌, Bool, ◌&&◌, leb, take, drop}
use mathlib.Core.List.{List, [], ◌∷◌, flat_map, map}
use Rattle.bits.specs.Bits.{cut}
use Rattle.message.specs.declared.Layout.{Layout}

-- the layout with these numbers
abbrev pub layout : (l1 l2 nc r : ℕ) → Layout
layout l1 l2 nc r = record { l1 = l1; l2 = l2; nc = nc; r = r }

-- "l1 and l2 at least 1; nc from 3 to 8; l1 × l2 at most 2^nc − 1; r from 0 to 16"
unfoldable pub legal : Layout → Bool
legal l =
    leb 1 l.l1 && leb 1 l.l2 && leb 3 l.nc && leb l.nc 8 && leb (l.l1 * l.l2) (2 ^ l.nc - 1)
    && leb l.r 16

-- n, the bits of a row
abbrev pub row_bits : Layout → ℕ
row_bits l = l.l1 * l.l2 * l.nc

-- nb, the bits of a block
abbrev pub block_bits : Layout → ℕ
block_bits l = l.l2 * l.nc

-- the bits of a chunk-string
abbrev pub string_bits : Layout → ℕ
string_bits l = l.nc * l.l1

-- the numbers from i on, n of them
unfoldable pub numbers : (i n : ℕ) → List ℕ
numbers i zero = []
numbers i (suc n) = i ∷ numbers (suc i) n

-- "a row .. is cut into l1 blocks of nb = l2 × nc bits"
unfoldable pub blocks : Layout → List ℕ → List (List ℕ)
unfolding cut
blocks l x = cut l.l1 (block_bits l) x

-- "each block is cut into l2 chunks of nc bits": chunk j of a block
unfoldable pub chunk : Layout → ℕ → List ℕ → List ℕ
chunk l j block = take l.nc (drop (j * l.nc) block)

-- "chunk-string j joins chunk j of every block in block order"
unfoldable pub chunk_string : Layout → List ℕ → ℕ → List ℕ
unfolding blocks chunk flat_map
chunk_string l x j = flat_map (chunk l j) (blocks l x)

-- the l2 chunk-strings of a row
unfoldable pub chunk_strings : Layout → List ℕ → List (List ℕ)
unfolding chunk_string numbers
chunk_strings l x = map (chunk_string l x) (numbers 0 l.l2)

-- all chunks "in row order"
unfoldable pub chunks : Layout → List ℕ → List (List ℕ)
unfolding cut
chunks l x = cut (l.l1 * l.l2) l.nc x
