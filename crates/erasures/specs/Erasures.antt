-- Erased chunks: what chunks that are still to be found bring to the checks, and how one of them is taken out of it.
-- The field calls what is missing of the checks the syndromes, and a chunk whose place is known and whose content is
-- not an erasure.
use Rattle.std.specs.Prelude.{ℕ, zero, suc, ◌+◌, ◌*◌, ◌^◌, ◌<◌, ◌≤◌, ◌≡◌, cond, List, [], ◌∷◌, eqb, get_or}
use Rattle.std.specs.Int.Bits.{bit_xor}
use Rattle.field.specs.Field.{Element, power, times}

-- what k erased chunks from the u-th on bring to check i: the field sum of 2 ^ (i * c) times e over their places c and
-- contents e
unfoldable pub brought : (nc i : ℕ) (c e : ℕ → ℕ) (u k : ℕ) → ℕ
unfolding power times
brought nc i c e u zero = 0
brought nc i c e u (suc k) = bit_xor (times nc (power nc (i * c u)) (e u)) (brought nc i c e (suc u) k)

-- as many checks as there are erased chunks from the u-th on have just what these bring
abbrev pub Brings : (nc : ℕ) (ss : List ℕ) (c e : ℕ → ℕ) (u k : ℕ) → Type 0
Brings nc ss c e u k = (i : ℕ) → i < k → get_or ss i 0 ≡ brought nc i c e u k

-- a number in which the chunk at place c does not show: a check and 2 ^ c times the one before it
abbrev pub without : (nc c s t : ℕ) → ℕ
without nc c s t = bit_xor t (times nc (power nc c) s)

-- the contents of the other chunks once the u-th is taken out: each times the sum of its own power and the u-th's
abbrev pub scaled : (nc : ℕ) (c e : ℕ → ℕ) (u : ℕ) → ℕ → ℕ
scaled nc c e u z = times nc (bit_xor (power nc (c z)) (power nc (c u))) (e z)

-- the places of n erased chunks: places of a row, no two of them the same
pub record Places (nc n : ℕ) (c : ℕ → ℕ) : Type 0 where
  pub low : (z : ℕ) → z < n → c z + 1 < 2 ^ nc
  pub apart : (z w : ℕ) → z < n → w < n → c z ≡ c w → z ≡ w

-- each content is an element of the field
abbrev pub Contents : (nc : ℕ) (e : ℕ → ℕ) → Type 0
Contents nc e = (z : ℕ) → Element nc (e z)

-- how many of the chunks are not 0
unfoldable pub weight : List ℕ → ℕ
weight [] = 0
weight (e ∷ es) = cond (eqb e 0) 0 1 + weight es
