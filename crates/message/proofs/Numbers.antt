-- The numbers of a message, written one part after another to a slice o. Assumes nothing.
use Prim.Native.Nat.{ℕ, ◌+◌, ◌*◌}
use mathlib.Core.Path.{◌≡◌, refl, sym, ap, ◌∙◌}
use mathlib.Core.List.{List, ◌++◌, append_assoc}
use native.Mathlib.Omega.{arith}
use lib.ListN.{length, drop}
use lib.Seq.{drop-drop}
use Rattle.bits.specs.Bits.{unpack}
use Rattle.bits.proofs.Packing.{unpack-drop}
use Rattle.message.specs.Layout.{block_bits, string_bits}
use Rattle.message.specs.Message.{width}
use Rattle.message.specs.Read.{body, fields, read_block_sums, read_string_sums, read_checks}
use Rattle.message.specs.declared.Layout.{Layout}
use Rattle.message.proofs.Fields.{length_fields}

module _ (l : Layout) (s : List ℕ) where
  pub block_count : length (read_block_sums l s) ≡ l.l1
  unfolding read_block_sums
  block_count = length_fields l.l1 (width (block_bits l)) (body s)

  pub string_count : length (read_string_sums l s) ≡ l.l2
  unfolding read_string_sums
  string_count = length_fields l.l2 (width (string_bits l)) (drop (l.l1 * width (block_bits l)) (body s))

  pub check-count : length (read_checks l s) ≡ l.r
  unfolding read_checks
  check-count = length_fields l.r l.nc (drop (l.l1 * width (block_bits l) + l.l2 * width (string_bits l)) (body s))

  -- the bits from one behind the head on
  pub after-head-bits : (x y : ℕ) → y ≡ 72 + x → drop y (unpack s) ≡ drop x (body s)
  unfolding body
  after-head-bits x y e =
      ap (λ (n : ℕ). drop n (unpack s)) e ∙ sym (drop-drop x 72 (unpack s)) ∙ ap (drop x) (sym (unpack-drop 9 s))

  -- the three parts of the numbers, with what stands behind them
  pub written : (wb ws : ℕ) (x : List ℕ) → wb ≡ width (block_bits l) → ws ≡ width (string_bits l)
      → fields l.l1 wb (drop 72 (unpack s)) ++ (fields l.l2 ws (drop (72 + l.l1 * wb) (unpack s))
      ++ (fields l.r l.nc (drop (72 + l.l1 * wb + l.l2 * ws) (unpack s)) ++ x))
      ≡ read_block_sums l s ++ read_string_sums l s ++ read_checks l s ++ x
  unfolding read_block_sums read_string_sums read_checks
  written wb ws x eb es =
      rw (
        after-head-bits 0 72 refl,
        after-head-bits (l.l1 * wb) (72 + l.l1 * wb) refl,
        after-head-bits (l.l1 * wb + l.l2 * ws) (72 + l.l1 * wb + l.l2 * ws) (omega arith),
        eb,
        es,
      ) (simp append_assoc refl)
