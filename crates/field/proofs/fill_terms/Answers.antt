use Rattle.std.proofs.Common.{arith}
use Rattle.field.proofs.Terms.{terms_none, terms_zero, terms_some}
use Rattle.field.proofs.fill_terms.Goals as goal
use Rattle.field.proofs.fill_terms.Goals.{then-x-ne0, else-x-ne0}

pub loop-c-init : goal.loop-c-init
loop-c-init c =
    let a = c.args in
    terms_none a.nc a.xs.now a.cs.now a.es.now c.requires.2.0 c.requires.2.1

pub loop-c-preserved : goal.loop-c-preserved
loop-c-preserved c =
    let a = c.args in
    let p = c.loop-c in
    let q = p.invariant in
    elim c.if-x-ne0.branch [
      | then-x-ne0 w ↦ rw (w.cs-is, w.es-is, w.n-is)
          (terms_some a.nc p.n p.c w.log_of.result a.xs.now p.cs p.es q (omega arith) (omega (arith, q.few))
          (omega (arith, q.few)) (omega arith) w.log_of.ensures.0 w.log_of.ensures.1)
      | else-x-ne0 w ↦ rw (w.cs-is, w.es-is, w.n-is)
          (terms_zero a.nc p.n p.c a.xs.now p.cs p.es q (omega arith) w.if-x-ne0.false)
    ]
