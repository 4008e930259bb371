-- What a byte weighs: how many ones it has, and the total of their positions. A table of this is what the code reads.
use Rattle.std.specs.Prelude.{ℕ, zero, suc, ◌+◌, ◌*◌, List, [], ◌∷◌}
use Rattle.bits.specs.Bits.{digits}
use Rattle.vt.specs.Ones.{ones}
use Rattle.vt.specs.Sum.{total}

-- the number of ones of a byte, times 64, and the total of their positions, which is below 64
unfoldable pub weight : ℕ → ℕ
unfolding digits ones total
weight b = ones (digits 8 b) * 64 + total 1 (digits 8 b)

-- the weights of k bytes from b on
unfoldable pub weights_from : (b k : ℕ) → List ℕ
unfolding weight
weights_from b zero = []
weights_from b (suc k) = weight b ∷ weights_from (suc b) k

-- the weights of all bytes
unfoldable pub weights : List ℕ
unfolding weights_from
weights = weights_from 0 256
