-- What a heavy block brings to its total from a column on: in the end nothing, before a column what its chunk there brings
-- more, and at first what its sum is. Rests on the laws of lines. Assumes nothing.
use Prim.Native.Nat.{ℕ, ◌+◌, ◌*◌, ◌%◌, ◌<◌}
use mathlib.Core.Path.{◌≡◌, ap, ◌∙◌}
use mathlib.Core.List.{List}
use native.Mathlib.Nat.{add_comm, mul-one}
use native.Mathlib.Omega.{arith}
use lib.ListN.{get_or}
use Rattle.bits.specs.Bits.{digits}
use Rattle.vt.specs.Sum.{total, sum}
use Rattle.message.specs.declared.Layout.{Layout}
use Rattle.lines.specs.Lines.{line}
use Rattle.lines.proofs.Turns.{total_turn, total-start, total_done, sum_of_total}
use Rattle.column.specs.Column.{value_at}
use Rattle.column.specs.declared.Heavy.{Heavy}
use Rattle.sums.specs.Sums.{block_modulus, rest}

module _ (l : Layout) (heavy : Heavy) (vs : List ℕ) (s : ℕ) where
  pub rest-next : (c : ℕ) → c < l.l2
      → rest l heavy vs c s
      ≡ rest l heavy vs (c + 1) s + total (c * l.nc + 1) (digits l.nc (value_at l heavy vs c s))
  rest-next c h =
      let turn = total_turn l.nc (get_or heavy.block s 0 * l.l2) 1 l.l2 c vs h in
      rw (mul-one c, mul-one (c + 1)) at turn ∙ add_comm _ _

  pub rest_end : rest l heavy vs l.l2 s ≡ 0
  rest_end =
      let done = total_done l.nc (get_or heavy.block s 0 * l.l2) 1 l.l2 l.l2 vs (omega arith) in
      rw (mul-one l.l2) at done

  pub rest-whole : rest l heavy vs 0 s % block_modulus l
      ≡ sum (line l.nc (get_or heavy.block s 0 * l.l2) 1 l.l2 vs)
  rest-whole =
      let whole = total-start l.nc (get_or heavy.block s 0 * l.l2) 1 l.l2 vs in
      ap (λ (n : ℕ). n % block_modulus l) whole
      ∙ sum_of_total l.nc (get_or heavy.block s 0 * l.l2) 1 l.l2 vs
