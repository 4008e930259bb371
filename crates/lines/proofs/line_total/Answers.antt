use Rattle.std.proofs.Common.{arith}
use Rattle.lines.proofs.Turns.{total_turn, total_done, total-most}
use Rattle.lines.proofs.line_total.Goals as goal

pub overflow_add-sum : goal.overflow_add-sum
overflow_add-sum c =
    let a = c.args in
    let p = c.loop-t in
    let step = total_turn a.nc a.start a.stride a.count p.t a.vs.now (omega arith) in
    let most = total-most a.nc a.start a.stride a.count a.vs.now c.requires.short in
    omega (arith, p.invariant, step, most, c.chunk_total-sum.ensures.0)

pub loop-t-preserved : goal.loop-t-preserved
loop-t-preserved c =
    let a = c.args in
    let p = c.loop-t in
    let step = total_turn a.nc a.start a.stride a.count p.t a.vs.now (omega arith) in
    omega (arith, p.invariant, step, c.chunk_total-sum.ensures.0)

pub returns : goal.returns
returns c =
    let a = c.args in
    let p = c.loop-t in
    omega (arith, p.invariant, total_done a.nc a.start a.stride a.count p.t a.vs.now (omega arith))
