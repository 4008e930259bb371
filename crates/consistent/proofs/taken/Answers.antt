use Rattle.std.proofs.Common.{sym, ◌∙◌, arith}
use Rattle.consistent.proofs.Steps.{bit_next, bits-end}
use Rattle.consistent.proofs.taken.Goals as goal

pub loop-b-preserved : goal.loop-b-preserved
loop-b-preserved c =
    let a = c.args in
    let p = c.loop-b in
    let n = bit_next a.x.now a.y.now p.b-index p.j c.after_bit-j.result (omega arith) c.after_bit-j.ensures in
    record {
      within = c.after_bit-j.ensures.0;
      eaten = n.0 ∙ p.invariant.eaten;
      lost = omega (arith, p.invariant.lost, n.1);
    }

pub returns : goal.returns
returns c =
    let p = c.loop-b in
    let e = bits-end c.args.x.now c.args.y.now p.b-index p.j (omega arith) in
    (p.invariant.within, (sym p.invariant.eaten ∙ e.0, omega (arith, p.invariant.lost, e.1)))
