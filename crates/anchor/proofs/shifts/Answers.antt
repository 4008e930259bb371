use Rattle.std.proofs.Common.{◌≡◌, ◌+◌, ◌-◌, inl, inr, arith, rules}
use Rattle.anchor.proofs.Desk.{runs_next}
use Rattle.anchor.proofs.shifts.Goals as goal
use Rattle.anchor.proofs.shifts.Goals.{then-reads, else-reads}

pub loop-d-preserved : goal.loop-d-preserved
loop-d-preserved c =
    let a = c.args in
    let p = c.loop-d in
    let n =
    runs_next a.nc a.y.now a.c a.v p.out p.d p.run c.if-reads.run (omega arith)
    (elim c.if-reads.branch [
      | then-reads w ↦ inl (c.reads.ensures w.if-reads.true, w.run-is)
      | else-reads w ↦ inr w.run-is
    ])
    p.invariant.run p.invariant.written
    in
    let d : p.d - 1 + 1 ≡ p.d = omega arith in
    record {
      size = search rules;
      short = elim c.if-reads.branch [ then-reads w ↦ omega arith | else-reads w ↦ omega arith ];
      run = rw d n.0;
      written = n.1;
    }

pub returns-after-reads : goal.returns-after-reads
returns-after-reads c =
    let a = c.args in
    let p = c.loop-d in
    (runs_next a.nc a.y.now a.c a.v p.out p.d p.run c.if-reads.run (omega arith)
    (elim c.if-reads.branch [
      | then-reads w ↦ inl (c.reads.ensures w.if-reads.true, w.run-is)
      | else-reads w ↦ inr w.run-is
    ])
    p.invariant.run p.invariant.written).1
