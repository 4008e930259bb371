-- Where a bit that is put into a string adds a given amount to the total of the positions of its ones: its own position
-- where it is a one, and one for each one behind it.
use Rattle.std.specs.Prelude.{ℕ, ◌+◌, ◌*◌, ◌≤◌, ◌≡◌, ◌⊎◌, List, take, drop}
use Rattle.vt.specs.Ones.{ones}

-- from position i on, with r ones left, a bit that adds t has a place: a 0 adds at most r, and a 1 at least i + r and
-- at most e
abbrev pub Reach : (i t r e : ℕ) → Type 0
Reach i t r e = (t ≤ r) ⊎ ((i + r ≤ t) × (t ≤ e))

-- among the first n of the bits x, a part of so many bits from a byte on in which a bit that adds t has a place: count
-- ones from its first bit on, and so many behind it
pub record PartOf (n t : ℕ) (x : List ℕ) (byte size count behind : ℕ) : Type 0 where
  pub small : size ≤ 8
  pub inside : byte * 8 + size ≤ n
  pub counted : count ≡ ones (take size (drop (byte * 8) x)) + behind
  pub rest : behind ≡ ones (drop (byte * 8 + size) x)
  pub low : behind ≤ t
  pub reach : Reach (byte * 8 + 1) t count (byte * 8 + size + 1 + behind)
