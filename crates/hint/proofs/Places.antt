-- Blocks within a row of a legal layout. Assumes nothing.
use Prim.Native.Nat.{ℕ, ◌+◌, ◌*◌, ◌<◌, ◌≤◌}
use mathlib.Core.Path.{◌≡◌}
use native.Mathlib.Nat.{mul-le-mul_right}
use native.Mathlib.Omega.{arith}
use lib.ListN.{length}
use Rattle.bits.specs.Bits.{longest}
use Rattle.message.specs.Layout.{row_bits, block_bits}
use Rattle.message.specs.declared.Layout.{Layout}
use Rattle.message.proofs.Legal.{Bounds, Sizes, legal_bounds, sizes}
use Rattle.consistent.specs.Query.{Query}
use Rattle.found.specs.Given.{Given}

module _ {q : Query} (g : Given q) where
  abbrev l : Layout
  l = q.layout

  bounds : Bounds l
  bounds = legal_bounds l g.is_legal

  pub high : Sizes l
  high = sizes l bounds

  -- the received row is short
  pub received-short : length q.received ≤ longest
  received-short = omega (arith, g.short, high.row)

  -- block i ends where the next begins, within the row
  pub block_next : (i : ℕ) → (i + 1) * block_bits l ≡ i * block_bits l + block_bits l
  block_next i = omega arith

  pub block_inside : (i : ℕ) → i < l.l1 → i * block_bits l + block_bits l ≤ row_bits l
  block_inside i h =
      let k : i + 1 ≤ l.l1 = omega arith in
      let a : (i + 1) * block_bits l ≤ l.l1 * block_bits l = mul-le-mul_right (block_bits l) k in
      omega (arith, block_next i, high.l1_block)

  -- a place up to the end of the row is small
  pub place-high : (i p : ℕ) → i ≤ l.l1 → p ≤ i * block_bits l → p ≤ longest
  place-high i p h k =
      let a : i * block_bits l ≤ l.l1 * block_bits l = mul-le-mul_right (block_bits l) h in
      omega (arith, high.l1_block, high.row)
