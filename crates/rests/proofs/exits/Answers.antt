use Rattle.std.proofs.Common.{◌∙◌, arith}
use Rattle.rests.proofs.Leaving.{leaves_next, leaves_done, all-marked}
use Rattle.rests.proofs.exits.Goals as goal

pub returns-then-not-is_short : goal.returns-then-not-is_short
returns-then-not-is_short c row vs next x holds behind s h =
    all-marked _ _ _ _ row _ c.args.left next vs c.requires.0.few c.requires.1.1 x s h

pub loop-s-preserved : goal.loop-s-preserved
loop-s-preserved c =
    let a = c.args in
    let t = c.loop-s in
    let m = c.mark_block.ensures in
    record {
      long = m.long ∙ t.invariant.long;
      leaves = leaves_next _ _ a.heavy _ a.left a.sets a.rests.now t.s t.can _ t.invariant.leaves m;
    }

pub returns : goal.returns
returns c row vs next x holds behind s h =
    let a = c.args in
    let short = c.is_short.ensures.0 c.if-not-is_short.false in
    leaves_done _ _ _ _ row _ a.left next vs a.sets a.rests.now c.loop-s.can c.requires.1.0
    (λ t k. c.loop-s.invariant.leaves t (omega arith)) x s h (holds short s h) (behind short s h)
