use Rattle.std.proofs.Common.{ℕ, ◌+◌, ◌*◌, ◌≤◌, get_or, arith}
use Rattle.std.proofs.Math.ListN.{length-set}
use Rattle.bits.proofs.Laws.{bit_at}
use Rattle.vt.proofs.Totals.{times_bit}
use Rattle.windows.proofs.Windows.{filled-start, filled_next, filled-tables, filled-low}
use Rattle.windows.proofs.fill.Goals as goal

pub loop-i-init : goal.loop-i-init
loop-i-init c = filled-start c.args.y.now c.args.totals.now c.args.counts.now (omega arith) (omega arith)

pub overflow_add-totals-in-loop-i : goal.overflow_add-totals-in-loop-i
overflow_add-totals-in-loop-i c =
    let i = c.loop-i.i in
    let b = get_or c.args.y.now i 0 in
    let low = filled-low c.loop-i.invariant c.requires.0 c.requires.1.0 (omega arith) in
    let rises : (i + 1) * b ≤ i + 1 = times_bit (i + 1) b (bit_at c.args.y.now c.requires.0 i) in
    rw c.from.ensures (omega (arith, low.0, rises))

pub overflow_add-counts : goal.overflow_add-counts
overflow_add-counts c =
    let low = filled-low c.loop-i.invariant c.requires.0 c.requires.1.0 (omega arith) in
    omega (arith, low.1, bit_at c.args.y.now c.requires.0 c.loop-i.i)

pub loop-i-preserved : goal.loop-i-preserved
loop-i-preserved c =
    rw (c.from.ensures, c.from-in-loop-i.ensures)
    (filled_next c.loop-i.invariant (omega (arith, length-set {A = ℕ})) (omega (arith, length-set {A = ℕ})) (omega arith))

pub returns : goal.returns
returns c =
    filled-tables c.loop-i.invariant (omega (arith, length-set {A = ℕ})) (omega (arith, length-set {A = ℕ})) (omega arith)
