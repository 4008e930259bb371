-- Sets of residues modulo some number, as the bits of words, 64 to a word; a set may stand twice, the second copy behind
-- the first.
use Rattle.std.specs.Prelude.{ℕ, ◌+◌, ◌*◌, ◌/◌, ◌%◌, ◌^◌, ◌<◌, ◌≤◌, ◌≡◌, List, length, get_or}
use Rattle.bits.specs.Bits.{longest_line}

-- bit b of a word is one
abbrev pub One : (w b : ℕ) → Type 0
One w b = w / 2 ^ b % 2 ≡ 1

-- a residue is in a set: its bit is one
abbrev pub In : (set : List ℕ) (r : ℕ) → Type 0
In set r = One (get_or set (r / 64) 0) (r % 64)

-- what is in a set is in another
abbrev pub Grows : (entry exit : List ℕ) → Type 0
Grows entry exit = (r : ℕ) → In entry r → In exit r

-- a residue modulo m is in both copies of a set that stands twice
abbrev pub Twice : (m : ℕ) (set : List ℕ) (r : ℕ) → Type 0
Twice m set r = In set r × In set (m + r)

-- the residues in both copies of a set, each moved on by so much modulo m, are in another
abbrev pub Moved : (m by : ℕ) (from to : List ℕ) → Type 0
Moved m by from to = (r : ℕ) → r < m → Twice m from r → In to ((r + by) % m)

-- and in both copies of another
abbrev pub MovedTwice : (m by : ℕ) (from to : List ℕ) → Type 0
MovedTwice m by from to = (r : ℕ) → r < m → Twice m from r → Twice m to ((r + by) % m)

-- m is the modulus of the sum of at most 2,040 bits, and a set of residues modulo m is long enough to stand twice
abbrev pub Long : (m : ℕ) (set : List ℕ) → Type 0
Long m set = (m ≤ longest_line + 1) × (2 * (m / 64) + 1 < length set)

-- and there is room for another one
abbrev pub Room : (m : ℕ) (set other : List ℕ) → Type 0
Room m set other = Long m set × (m / 64 < length other)
