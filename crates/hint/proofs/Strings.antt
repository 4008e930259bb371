-- Strings of bits that are written bit by bit. Assumes nothing.
use Prim.Native.Nat.{ℕ, zero, suc, ◌<◌, ◌≤◌}
use mathlib.Core.Path.{◌≡◌, ◌∙◌}
use mathlib.Core.List.{List, [], ◌∷◌}
use native.Mathlib.Omega.{arith}
use lib.ListN.{take, set, replicate, length-take, length-replicate}
use Rattle.bits.specs.Bits.{AllBits}
use Rattle.bits.proofs.Laws.{bits-take}
use Rattle.message.specs.Layout.{row_bits}
use Rattle.message.specs.declared.Layout.{Layout}
use Rattle.hint.specs.Tries.{Hand}

-- a bit written to a string of bits leaves one
pub bits-set : (x : List ℕ) (i v : ℕ) → AllBits x → v < 2 → AllBits (set x i v)
bits-set [] i v a h = tt
bits-set (b ∷ x) zero v a h = (h, a.1)
bits-set (b ∷ x) (suc i) v a h = (a.0, bits-set x i v a.1 h)

-- zeros are bits
bits-zeros : (n : ℕ) → AllBits (replicate n 0)
bits-zeros zero = tt
bits-zeros (suc n) = (omega arith, bits-zeros n)

-- as many zeros as a row has bits are one in hand
pub hand-zeros : (l : Layout) (m : ℕ) → row_bits l ≤ m → (n : ℕ) → n ≡ row_bits l → Hand l (take n (replicate m 0))
hand-zeros l m h n e =
    record {
      bits = bits-take n (replicate m 0) (bits-zeros m);
      size = length-take n (replicate m 0) ∙ omega (arith, length-replicate {A = ℕ} m 0);
    }
