-- Sets of residues modulo a small number, each a word whose bits are ones for the residues that are in the set.
use Rattle.std.specs.Prelude.{ℕ, ◌/◌, ◌%◌, ◌^◌, ◌≡◌}

-- the residue of n modulo m is in the set
abbrev pub Has : (m set n : ℕ) → Type 0
Has m set n = set / 2 ^ (n % m) % 2 ≡ 1
