-- What the tactics leave open of `rows::move_bytes`.
use Rattle.std.proofs.Common.{◌≡◌, ◌+◌, ◌-◌, ℕ, sym, ap, ◌∙◌, arith}
use Rattle.rows.proofs.Slice.{Moved, moved_start, moved_read, moved_next}
use Rattle.rows.proofs.move_bytes.Goals as goal

pub loop-i-init : goal.loop-i-init
loop-i-init c = record { low = omega arith; moved = moved_start c.args.list.now c.args.to c.args.w }

pub loop-i-preserved : goal.loop-i-preserved
loop-i-preserved c =
    let a = c.args in
    let i : ℕ = c.loop-i.i - 1 in
    let e : i + 1 ≡ c.loop-i.i = omega arith in
    let l : c.loop-i.list ≡ Moved a.list.now a.to a.w (i + 1) =
    c.loop-i.invariant.moved ∙ ap (Moved a.list.now a.to a.w) (sym e) in
    let r = moved_read a.list.now a.to a.w i (omega arith) (omega arith) (omega arith) in
    record { low = omega arith; moved = rw (l, r) (moved_next a.list.now a.to a.w i (omega arith) (omega arith)) }

pub returns : goal.returns
returns c =
    let a = c.args in
    let e : c.loop-i.i ≡ a.from = omega arith in
    c.loop-i.invariant.moved ∙ ap (Moved a.list.now a.to a.w) e
