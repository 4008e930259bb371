-- In how many chunks of a heavy block a row can differ from another one, z, as its losses are shared among its
-- columns. The block's columns are walked ahead, counting the losses used, or back, counting the losses left: so what is
-- counted only rises.
use Rattle.std.specs.Prelude.{ℕ, ◌+◌, ◌-◌, ◌*◌, ◌<◌, ◌≤◌, ◌≡◌, Bool, true, cond, List, eqb, length, get_or, drop}
use Rattle.bits.specs.Bits.{AllBits, longest, number}
use Rattle.message.specs.Layout.{legal}
use Rattle.message.specs.declared.Layout.{Layout}
use Rattle.states.specs.States.{lefts}
use Rattle.column.specs.Column.{chunk_at}
use Rattle.column.specs.declared.Heavy.{Heavy}

-- the column of step t, and the losses left where so many are counted
abbrev pub column_of : (ahead : Bool) (columns t : ℕ) → ℕ
column_of ahead columns t = cond ahead t (columns - 1 - t)

abbrev pub left_of : (ahead : Bool) (size w : ℕ) → ℕ
left_of ahead size w = cond ahead (size - w) w

-- the chunk of heavy block s in column j can be read whole where e losses are left
abbrev pub Reads : Layout → (y : List ℕ) → Heavy → (s j e : ℕ) → Type 0
Reads l y heavy s j e =
    (get_or heavy.end s 0 ≤ chunk_at l heavy j s * l.nc + e)
    × (chunk_at l heavy j s * l.nc + e + l.nc ≤ length y + get_or heavy.end s 0)

-- one where it is then another than in z
abbrev pub read_apart : Layout → (y : List ℕ) → Heavy → (z : List ℕ) → (s j e : ℕ) → ℕ
read_apart l y heavy z s j e =
    cond
    (eqb (number l.nc (drop (chunk_at l heavy j s * l.nc + e - get_or heavy.end s 0) y))
    (get_or z (chunk_at l heavy j s) 0))
    0
    1

-- what is asked of the received row, of heavy block s with so many losses, and of z
pub record Asked (l : Layout) (y : List ℕ) (heavy : Heavy) (z : List ℕ) (s size : ℕ) : Type 0 where
  pub allowed : legal l ≡ true
  pub bits : AllBits y
  pub short : length y ≤ longest
  pub few : s < 6
  pub inside : get_or heavy.block s 0 < l.l1
  pub others : l.l1 * l.l2 ≤ length z
  pub small : size < lefts

-- a row walks the columns of heavy block s: after t steps it has counted w t losses, of size in all, and n t chunks at
-- most are others than in z; a chunk that loses a bit can be another, one that does not is as it is read
pub record Walk (l : Layout) (y : List ℕ) (heavy : Heavy) (z : List ℕ) (s size : ℕ) (ahead : Bool) (w n : ℕ → ℕ)
    : Type 0 where
  pub starts : n 0 ≡ 0
  pub within : (t : ℕ) → t ≤ l.l2 → w t ≤ size
  pub rises : (t : ℕ) → t < l.l2 → w t ≤ w (t + 1)
  pub more : (t : ℕ) → t < l.l2 → n (t + 1) ≤ n t + 1
  pub reads : (t : ℕ) → t < l.l2 → w (t + 1) ≡ w t
      → Reads l y heavy s (column_of ahead l.l2 t) (left_of ahead size (w t))
  pub same : (t : ℕ) → t < l.l2 → w (t + 1) ≡ w t
      → n (t + 1) ≤ n t + read_apart l y heavy z s (column_of ahead l.l2 t) (left_of ahead size (w t))

-- where the entries of step t stand in a table, from a place on
abbrev pub step_at : (at t : ℕ) → ℕ
step_at at t = at + t * lefts

-- entries of the first t steps of all walks: each is at least what a walk counts there
abbrev pub Covered : Layout → (y : List ℕ) → Heavy → (z : List ℕ) → (s size : ℕ) (ahead : Bool) (at t : ℕ)
    (table : List ℕ) → Type 0
Covered l y heavy z s size ahead at t table =
    (w n : ℕ → ℕ) → Walk l y heavy z s size ahead w n → (i : ℕ) → i ≤ t → n i ≤ get_or table (step_at at i + w i) 0

-- the entries of step t + 1 are made of those of step t; nothing before them is changed
pub record Stepped (l : Layout) (y : List ℕ) (heavy : Heavy) (z : List ℕ) (s size : ℕ) (ahead : Bool) (at t : ℕ)
    (entry exit : List ℕ) : Type 0 where
  pub long : length exit ≡ length entry
  pub before : (i : ℕ) → i < step_at at (t + 1) → get_or exit i 0 ≡ get_or entry i 0
  pub low : (w : ℕ) → w ≤ size → get_or exit (step_at at (t + 1) + w) 0 ≤ t + 1
  pub lost : (v w : ℕ) → v < w → w ≤ size → get_or entry (step_at at t + v) 0 + 1 ≤ get_or exit (step_at at (t + 1) + w) 0
  pub whole : (w : ℕ) → w ≤ size → Reads l y heavy s (column_of ahead l.l2 t) (left_of ahead size w)
      → get_or entry (step_at at t + w) 0 + read_apart l y heavy z s (column_of ahead l.l2 t) (left_of ahead size w)
      ≤ get_or exit (step_at at (t + 1) + w) 0

-- a table of all steps of heavy block s, from a place on; nothing before it is changed
pub record Swept (l : Layout) (y : List ℕ) (heavy : Heavy) (z : List ℕ) (s size : ℕ) (ahead : Bool) (at : ℕ)
    (entry exit : List ℕ) : Type 0 where
  pub long : length exit ≡ length entry
  pub before : (i : ℕ) → i < at → get_or exit i 0 ≡ get_or entry i 0
  pub covered : Covered l y heavy z s size ahead at l.l2 exit

-- where the table of heavy block s starts among those of all
abbrev pub block_at : (columns s : ℕ) → ℕ
block_at columns s = s * ((columns + 1) * lefts)
