-- What listing hands to the search: the bits of the row, and room for whole rows. Assumes nothing.
use Prim.Native.Nat.{ℕ, ◌*◌, ◌≤◌, min}
use mathlib.Core.Path.{◌≡◌}
use mathlib.Core.Bool.{true}
use mathlib.Core.List.{List, ◌++◌}
use native.Mathlib.Nat.{mul-le-mul, div-mul-le_self}
use native.Mathlib.Omega.{arith}
use lib.ListN.{length, take}
use lib.Seq.{take_at}
use Rattle.bits.specs.Bits.{longest, bytes_for, unpack}
use Rattle.message.specs.Layout.{legal, row_bits}
use Rattle.message.specs.declared.Layout.{Layout}
use Rattle.message.proofs.Legal.{legal_bounds, sizes}
use Rattle.consistent.specs.List.{used_bytes}
use Rattle.found.specs.Found.{Given}
use Rattle.lister.specs.Rows.{room_for}
use Rattle.lister.proofs.Row.{length-bits}

-- a row has at least one bit
pub row_low : (l : Layout) → legal l ≡ true → 1 ≤ row_bits l
row_low l g =
    let b = legal_bounds l g in
    omega (arith, mul-le-mul (mul-le-mul b.l1_low b.l2_low) b.nc_low)

module _ (l : Layout) (numbers row : List ℕ) (m : ℕ) (g : Given l numbers (take m (unpack row)))
    (h : m ≤ length row * 8) where
  -- and at most 2,040
  pub row-high : row_bits l ≤ longest
  row-high = (sizes l (legal_bounds l g.is_legal)).row

  -- and no more are received
  pub few_bits : m ≤ longest
  few_bits = omega (arith, g.short, length-bits (row_bits l) row m h, row-high)

  -- the bits of the row, lent from the array that they were unpacked to
  pub bits_lent : (held rest : List ℕ) → held ≡ take m (unpack row) ++ rest → take m held ≡ take m (unpack row)
  bits_lent held rest e =
      rw e (take_at (take m (unpack row)) rest m (length-bits (row_bits l) row m h))

-- the rows that fit take no more bytes than the slice has
pub room_fits : (n slice : ℕ) → room_for n slice * bytes_for n ≤ slice
room_fits n slice =
    let d = div-mul-le_self (min slice used_bytes) (bytes_for n) in
    let u : min slice used_bytes ≤ slice = omega arith in
    omega arith
