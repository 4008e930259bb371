-- The short chunks of a loss table, and the rows under a state in which some of them are still to be found.
use Rattle.std.specs.Prelude.{ℕ, ◌+◌, ◌*◌, ◌<◌, ◌≤◌, ◌≡◌, cond, ◌⊎◌, List, [], ◌∷◌, eqb, get_or, drop, set}
use Rattle.bits.specs.Bits.{digits}
use Rattle.message.specs.declared.Layout.{Layout}
use Rattle.consistent.specs.Greedy.{losses}
use Rattle.lines.specs.Lines.{values}
use Rattle.cells.specs.declared.Cells.{Cells}

-- the losses of the cells with this key, which is their block or their column
unfoldable pub share : (keys lost : List ℕ) (key : ℕ) → ℕ
share [] lost key = 0
share (k ∷ keys) [] key = 0
share (k ∷ keys) (a ∷ lost) key = cond (eqb k key) a 0 + share keys lost key

-- no block, or no chunk-string, has exactly one loss that is not mended
abbrev pub NoSingle : (keys lost : List ℕ) → Type 0
NoSingle keys lost = (key : ℕ) → share keys lost key ≡ 1 → ⊥

-- cell z has the only loss of its key that is not mended
pub record SingleAt (keys lost : List ℕ) (z : ℕ) : Type 0 where
  pub one : get_or lost z 0 ≡ 1
  pub alone : share keys lost (get_or keys z 0) ≡ 1

-- the chunk of cell z, counted in row order
abbrev pub chunk_of : Layout → Cells → ℕ → ℕ
chunk_of l cells z = get_or cells.block z 0 * l.l2 + get_or cells.column z 0

-- cell z is still to be found
abbrev pub Open : Cells → ℕ → Type 0
Open cells z = (z < 12) × (0 < get_or cells.lost z 0)

-- the cells when cell z is found: it has no losses left
abbrev pub found : Cells → ℕ → Cells
found cells z =
    record {
      n = cells.n;
      block = cells.block;
      column = cells.column;
      lost = set cells.lost z 0;
      place = cells.place;
    }

-- chunk j of block i is a cell that is still to be found
abbrev pub OpenAt : Cells → (i j : ℕ) → Type 0
OpenAt cells i j = (z : ℕ) × (Open cells z × ((get_or cells.block z 0 ≡ i) × (get_or cells.column z 0 ≡ j)))

-- the open cells stand in the row, and the bits that they are matched against start in the received row of m bits
abbrev pub Placed : Layout → (m : ℕ) → Cells → Type 0
Placed l m cells =
    (z : ℕ) → Open cells z
    → (get_or cells.block z 0 < l.l1) × ((get_or cells.column z 0 < l.l2) × (get_or cells.place z 0 ≤ m))

-- but for the free places, chunks that are given by their block and their column, the chunks of two rows are the same.
-- What a step may change of the row in hand is said with the rows at its entry and at its exit.
pub record SameBut (l : Layout) (free : ℕ → ℕ → Type 0) (entry exit : List ℕ) : Type 0 where
  pub at : (i c : ℕ) → i < l.l1 → c < l.l2
      → free i c ⊎ (get_or exit (i * l.l2 + c) 0 ≡ get_or entry (i * l.l2 + c) 0)

-- the row x is under the state: its chunks are those of the row in hand but for the open cells, and each open cell
-- loses just its count against the received row from its place on
pub record Under (l : Layout) (y : List ℕ) (cells : Cells) (row x : List ℕ) : Type 0 where
  pub decided : SameBut l (OpenAt cells) row (values l x)
  pub loses : (z : ℕ) → Open cells z
      → losses (digits l.nc (get_or (values l x) (chunk_of l cells z) 0)) (drop (get_or cells.place z 0) y)
      ≡ get_or cells.lost z 0
