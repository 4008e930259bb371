-- What a search looks for, what it holds of that in the list slice at any time, and what a step of it adds there. All of
-- it holds for any test of a row.
use Rattle.std.specs.Prelude.{ℕ, ◌*◌, ◌≤◌, ◌≡◌, Bool, true, false, List, ◌++◌, map, ltb, length, take, drop}
use Rattle.bits.specs.Bits.{bytes_for, pack}
use Rattle.rows.specs.Held.{Held, WellHeld, Known, add}
use Rattle.rows.specs.Order.{Mem, Row}
use Rattle.rows.specs.Rows.{all_rows, keep}
use Rattle.rows.specs.Slice.{flat, held_in, rows_of_slice, packed, Written}
use Rattle.rows.specs.declared.Kept.{Kept}

-- what is looked for: the rows of so many bits that pass a test
pub record Sought : Type 0 where
  pub bits : ℕ
  pub test : List ℕ → Bool

-- x is one of them
abbrev pub Passes : Sought → List ℕ → Type 0
Passes s x = Row s.bits x × (s.test x ≡ true)

-- all of them, in dictionary order
abbrev pub all_of : Sought → List (List ℕ)
all_of s = keep s.test (all_rows s.bits)

-- the rows that the list slice holds, and whether more were found
abbrev pub held_of : Sought → (list : List ℕ) → Kept → Held
held_of s list kept = rows_of_slice s.bits list kept.count kept.more

-- what is kept before a search: no row is held
abbrev pub no_rows : Kept
no_rows = record { count = 0; more = false }

-- the list slice holds rows that pass, packed from its start: in order, at most cap, and exactly cap where more were
-- found
pub record Holding (s : Sought) (cap : ℕ) (list : List ℕ) (kept : Kept) : Type 0 where
  pub well : WellHeld cap s.bits s.test (held_of s list kept)
  pub is_packed : held_in (bytes_for s.bits) list kept.count kept.more ≡ packed (held_of s list kept)
  pub room : cap * bytes_for s.bits ≤ length list

-- the one shape of what a step of a search does to the list slice: it adds rows that pass, the bytes beyond the rows held
-- stay as at entry, and afterwards every row under its state that passes is known: it is held, or more were found than
-- fit and it comes after all that are held
pub record Grown (s : Sought) (cap : ℕ) (under : List ℕ → Type 0) (entry : List ℕ) (kept : Kept) (exit : List ℕ)
    (now : Kept) : Type 0 where
  pub found : List (List ℕ)
  pub each : (x : List ℕ) → Mem x found → Passes s x
  pub written :
      Written (bytes_for s.bits) (packed (add cap (held_of s entry kept) found)) entry exit now.count now.more
  pub known : (x : List ℕ) → Passes s x → under x → Known (add cap (held_of s entry kept) found) x

-- what a whole search leaves: the first cap of all rows that pass, packed from the start of the slice, their number, and
-- whether there are more
pub record Listed (s : Sought) (cap : ℕ) (entry exit : List ℕ) (now : Kept) : Type 0 where
  pub slice : exit ≡ flat (map pack (take cap (all_of s))) ++ drop (now.count * bytes_for s.bits) entry
  pub count : now.count ≡ length (take cap (all_of s))
  pub more : now.more ≡ ltb cap (length (all_of s))
