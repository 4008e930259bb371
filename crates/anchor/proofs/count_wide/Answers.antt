use Rattle.std.proofs.Common.{ℕ, get_or, sym, arith}
use borrow.Author.Tests.{lt-ltb, le-ltb}
use Rattle.anchor.specs.Anchor.{near_at, wide}
use Rattle.anchor.proofs.Over.{over-start, over_up}
use Rattle.anchor.proofs.count_wide.Goals as goal
use Rattle.anchor.proofs.count_wide.Goals.{then-from-a, else-from-a}

pub loop-c-init : goal.loop-c-init
loop-c-init c =
    let a = c.args in
    record { at_most = omega arith; counted = sym (over-start (wide a.desk.now a.d a.a) a.from) }

pub loop-c-preserved : goal.loop-c-preserved
loop-c-preserved c =
    let a = c.args in
    let p = c.loop-c in
    let n = over_up (wide a.desk.now a.d a.a) a.from p.c (omega arith) in
    let u : ℕ = get_or a.desk.now (near_at p.c a.d) 0 in
    elim c.if-from-a.branch [
      | then-from-a w ↦ let m = rw (le-ltb a.a u (omega (arith, w.if-from-a.true, c.from.ensures))) at n in
          record { at_most = omega arith; counted = omega (arith, p.invariant.counted, m) }
      | else-from-a w ↦ let m = rw (lt-ltb a.a u (omega (arith, w.if-from-a.false, c.from.ensures))) at n in
          record { at_most = omega arith; counted = omega (arith, p.invariant.counted, m) }
    ]
