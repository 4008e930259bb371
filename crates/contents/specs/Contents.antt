-- The contents of a chunk by the bits that they lose, and a list of numbers as it grows.
use Rattle.std.specs.Prelude.{ℕ, ◌+◌, ◌*◌, ◌/◌, ◌^◌, ◌<◌, ◌≤◌, ◌≡◌, List, ◌∷◌, get_or}
use Rattle.bits.specs.Bits.{digits}
use Rattle.consistent.specs.Greedy.{losses}

-- the number w is among the entries from n to m
abbrev pub Among : (entries : List ℕ) (n m w : ℕ) → Type 0
Among entries n m w = (k : ℕ) × ((n ≤ k) × ((k < m) × (get_or entries k 0 ≡ w)))

-- the number w is v with left bits more behind it, and these lose just a bits against y
abbrev pub Ends : (left v a : ℕ) (y : List ℕ) (w : ℕ) → Type 0
Ends left v a y w = (w / 2 ^ left ≡ v) × (losses (digits left w) y ≡ a)

-- the same where the bit b stands before those bits
abbrev pub EndsAfter : (b left v a : ℕ) (y : List ℕ) (w : ℕ) → Type 0
EndsAfter b left v a y w = (w / 2 ^ left ≡ v) × (losses (b ∷ digits left w) y ≡ a)

-- v is a byte whatever left bits go behind it, and as many entries as there are such bytes go behind entry n of a slice
pub record Room (left v n size : ℕ) : Type 0 where
  pub byte : (v + 1) * 2 ^ left ≤ 256
  pub entries : n + 2 ^ left ≤ size

-- the entries from n to m, at most so many, were added to those before n, and every number of a kind is among them
pub record Gathered (kind : ℕ → Type 0) (most n : ℕ) (entry : List ℕ) (m : ℕ) (exit : List ℕ) : Type 0 where
  pub from : n ≤ m
  pub few : m ≤ n + most
  pub kept : (k : ℕ) → k < n → get_or exit k 0 ≡ get_or entry k 0
  pub all : (w : ℕ) → kind w → Among exit n m w
