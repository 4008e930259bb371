use Rattle.std.proofs.Common.{◌+◌, ◌*◌, arith}
use Rattle.message.proofs.Picking.{line_turn, line-end, line-sum_is}
use Rattle.message.proofs.chunks.line_sum.Goals as goal

pub loop-k-preserved : goal.loop-k-preserved
loop-k-preserved c =
    let a = c.args in
    let p = c.loop-k in
    let e = c.chunk_total-total.ensures in
    record {
      small = omega (arith, e.1, p.invariant.small);
      added = omega (
        arith,
        p.invariant.added,
        line_turn a.nc a.start a.stride a.count p.k a.chunks.now c.loop-k-test.true,
        e.0,
      );
    }

pub returns : goal.returns
returns c =
    let a = c.args in
    let p = c.loop-k in
    line-sum_is a.nc a.start a.stride a.count p.total a.chunks.now
    (omega (
      arith,
      p.invariant.added,
      line-end a.nc (a.start + p.k * a.stride) a.stride a.count p.k (p.k * a.nc + 1) a.chunks.now
          c.loop-k-test.false,
    ))
