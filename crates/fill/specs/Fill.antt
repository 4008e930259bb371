-- The rows under a state: what is asked of the content of one cell, and how it tells them apart.
use Rattle.std.specs.Prelude.{ℕ, ◌≡◌, List, get_or, drop}
use Rattle.bits.specs.Bits.{digits}
use Rattle.message.specs.declared.Layout.{Layout}
use Rattle.consistent.specs.Greedy.{losses}
use Rattle.lines.specs.Lines.{values}
use Rattle.found.specs.Found.{Given, Sent}
use Rattle.cells.specs.Cells.{Open, chunk_of, Under}
use Rattle.cells.specs.declared.Cells.{Cells}
use Rattle.contents.specs.Asks.{Allows}
use Rattle.contents.specs.Contents.{Among}
use Rattle.contents.specs.declared.Ask.{Ask}

-- each open cell loses just its count in the row in hand, against the received row from its place on
abbrev pub AllLose : (l : Layout) (y : List ℕ) (cells : Cells) (row : List ℕ) → Type 0
AllLose l y cells row =
    (z : ℕ) → Open cells z
    → losses (digits l.nc (get_or row (chunk_of l cells z) 0)) (drop (get_or cells.place z 0) y) ≡ get_or cells.lost z 0

-- every consistent row under the state has a content at cell z that is allowed
abbrev pub Asks : (l : Layout) (numbers : List ℕ) (cells : Cells) (row : List ℕ) (z : ℕ) (a : Ask) → Type 0
Asks l numbers cells row z a =
    (y x : List ℕ) → Given l numbers y → Sent l numbers y x → Under l y cells row x
    → Allows l.nc a (get_or (values l x) (chunk_of l cells z) 0)

-- the row x is under the state, and its chunk at cell z has the number v
abbrev pub With : (l : Layout) (y : List ℕ) (cells : Cells) (row : List ℕ) (z v : ℕ) (x : List ℕ) → Type 0
With l y cells row z v x = Under l y cells row x × (get_or (values l x) (chunk_of l cells z) 0 ≡ v)

-- the row x is under the state, and the number of its chunk at cell z is among the first u contents
abbrev pub Tried : (l : Layout) (y : List ℕ) (cells : Cells) (row : List ℕ) (z : ℕ) (contents : List ℕ) (u : ℕ)
    (x : List ℕ)
    → Type 0
Tried l y cells row z contents u x = Under l y cells row x × Among contents 0 u (get_or (values l x) (chunk_of l cells z) 0)
