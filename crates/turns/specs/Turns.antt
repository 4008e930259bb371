-- Mending by turns: "blocks and chunk-strings are mended by turns" (document 01). Both kinds of line have a sum, and a
-- line that lost exactly one bit is mended by it.
use Rattle.std.specs.Prelude.{ℕ, ◌+◌, ◌*◌, ◌^◌, ◌<◌, ◌≤◌, ◌≡◌, Bool, true, false, cond, List, length, get_or}
use Rattle.bits.specs.Bits.{AllBits, most_chunks, digits}
use Rattle.vt.specs.Sum.{sum}
use Rattle.message.specs.declared.Layout.{Layout}
use Rattle.consistent.specs.Greedy.{losses, in_all}
use Rattle.lines.specs.Lines.{line, Inside}
use Rattle.found.specs.Found.{Sent}
use Rattle.cells.specs.Cells.{NoSingle, OpenAt, Placed, SameBut, Under, found}
use Rattle.cells.specs.declared.Cells.{Cells}
use Rattle.turns.specs.declared.Line.{Line}
use Rattle.turns.specs.declared.Turn.{Turn}

-- what cells have in common that lie in one line: the column for chunk-strings, the block for blocks
abbrev pub keys_of : (strings : Bool) → Cells → List ℕ
keys_of strings cells = cond strings cells.column cells.block

-- the line of chunk j of block i: its chunk-string or its block
abbrev pub line_of : (strings : Bool) → Layout → (i j : ℕ) → Line
line_of strings l i j =
    cond strings
    (record { start = j; stride = l.l2; count = l.l1; hole = i; number = l.l1 + j })
    (record { start = i * l.l2; stride = 1; count = l.l2; hole = j; number = i })

-- a line of a row in hand of so many chunks that can be mended by the sum s: its marked chunk is matched against the
-- received bits y from a place on
pub record Ready (nc : ℕ) (y : List ℕ) (place : ℕ) (n : Line) (s size : ℕ) : Type 0 where
  pub inside : Inside nc n.start n.stride n.count size
  pub few : size ≤ most_chunks
  pub some_bits : 1 ≤ nc
  pub marked : n.hole < n.count
  pub sum_low : s ≤ n.count * nc
  pub starts : place ≤ length y
  pub bits : AllBits y

-- the chunk of the line n that is marked, among the numbers us
abbrev pub chunk_at : Line → List ℕ → ℕ
chunk_at n us = get_or us (n.start + n.hole * n.stride) 0

-- the numbers us are those of a row in which the line n has its sum s and lost one bit, in its marked chunk, against
-- the received bits z: its other chunks are those in hand
pub record Short (nc : ℕ) (n : Line) (s : ℕ) (z vs us : List ℕ) : Type 0 where
  pub around : (t : ℕ) → t < n.count → (t ≡ n.hole → ⊥)
      → get_or us (n.start + t * n.stride) 0 ≡ get_or vs (n.start + t * n.stride) 0
  pub has_sum : sum (line nc n.start n.stride n.count us) ≡ s
  pub loses : losses (digits nc (chunk_at n us)) z ≡ 1
  pub small : chunk_at n us < 2 ^ nc

-- what a cell that is found changes of the state: it is closed, and the rows under the state stay under it, with the
-- row in hand at exit; where there are any the search goes on
pub record Found (l : Layout) (numbers y : List ℕ) (cells : Cells) (z : ℕ) (row : List ℕ) (t : Turn) (exit : List ℕ)
    : Type 0 where
  pub any : t.any ≡ true
  pub closed : t.cells ≡ found cells z
  pub keeps : (x : List ℕ) → Sent l numbers y x → Under l y cells row x → (t.ok ≡ true) × Under l y t.cells exit x
  pub same : SameBut l (OpenAt cells) row exit

-- what cells that are found one after another change of the state: the rows under it stay under it, and where there are
-- any the search goes on; open losses get fewer, no cell is opened, and only chunks of open cells are changed
pub record Advanced (l : Layout) (numbers y : List ℕ) (cells : Cells) (row : List ℕ) (t : Turn) (exit : List ℕ)
    : Type 0 where
  pub keeps : (x : List ℕ) → Sent l numbers y x → Under l y cells row x → (t.ok ≡ true) × Under l y t.cells exit x
  pub unchanged : t.any ≡ false → t.cells ≡ cells
  pub fewer : t.any ≡ true → in_all t.cells.lost < in_all cells.lost
  pub placed : Placed l (length y) t.cells
  pub still : (i c : ℕ) → OpenAt t.cells i c → OpenAt cells i c
  pub same : SameBut l (OpenAt cells) row exit

-- what a turn leaves: no line of its kind has exactly one open loss
abbrev pub Turned : (strings : Bool) → Layout → (numbers y : List ℕ) → Cells → (row : List ℕ) → Turn → (exit : List ℕ)
    → Type 0
Turned strings l numbers y cells row t exit =
    Advanced l numbers y cells row t exit
    × (t.ok ≡ true → NoSingle (keys_of strings t.cells) t.cells.lost)
