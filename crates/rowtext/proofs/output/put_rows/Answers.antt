use Rattle.std.proofs.Common.{◌≡◌, ℕ, List, ◌+◌, ◌-◌, ◌*◌, ◌≤◌, length, take, drop, ap, ◌∙◌, length-drop, arith}
use mathlib.Core.List.{flat_map}
use lib.Seq.{length-take-le}
use Rattle.bits.specs.Bits.{cut}
use Rattle.rows.proofs.Slice.{row_fits}
use Rattle.rowtext.proofs.Lines.{rows_next, rows-place}
use Rattle.rowtext.proofs.Put.{put-none, put_then}
use Rattle.rowtext.proofs.output.put_rows.Goals as goal
use Rattle.rowtext.proofs.output.put_rows.Goals.{In-loop-i}

pub loop-i-init : goal.loop-i-init
unfolding flat_map cut
loop-i-init c = put-none c.args.out.now c.args.at

-- the row of a turn stands in the list, and is lent
stands : (c : In-loop-i) → let a = c.args in c.loop-i.i * a.w + a.w ≤ length a.list.now
stands c =
    let a = c.args in
    omega (arith, row_fits c.loop-i.i a.count a.w (omega arith), c.requires.0)

lent : (from w : ℕ) (list : List ℕ) → take (from + w - from) (drop from list) ≡ take w (drop from list)
lent from w list = let n : from + w - from ≡ w = omega arith in ap (λ (k : ℕ). take k (drop from list)) n

lent-long : (from w : ℕ) (list : List ℕ) → from + w ≤ length list → length (take (from + w - from) (drop from list)) ≡ w
lent-long from w list h =
    ap length (lent from w list) ∙ length-take-le w (drop from list) (simp length-drop (omega arith))

pub put_row-next-requires : goal.put_row-next-requires
put_row-next-requires c =
    let a = c.args in
    let p = c.loop-i in
    let there = stands (goal.at.put_row-next-requires c).In-loop-i in
    omega (
      arith,
      rows-place a.w p.i a.list.now (omega (arith, there)) p.invariant,
      lent-long (p.i * a.w) a.w a.list.now there,
      row_fits p.i a.count (a.w * 2 + 1) (omega arith),
      c.requires.1,
    )

pub loop-i-preserved : goal.loop-i-preserved
loop-i-preserved c =
    let a = c.args in
    let p = c.loop-i in
    let begins : a.at ≤ length a.out.now = omega (arith, c.requires.1) in
    let put = put_then p.invariant c.put_row-next.ensures begins in
    rw (lent (p.i * a.w) a.w a.list.now, rows_next a.w p.i a.list.now) at put
