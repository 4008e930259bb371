use Rattle.std.proofs.Common.{◌∙◌, arith, rules}
use Rattle.far.proofs.Walks.{covered_next}
use Rattle.far.proofs.sweep.Goals as goal

pub loop-t-preserved : goal.loop-t-preserved
loop-t-preserved c =
    let d = c.next_step.ensures in
    let i = c.loop-t.invariant in
    record {
      before = λ k r. d.before k (omega arith) ∙ i.before k r;
      low = d.low;
      covered = covered_next _ _ _ _ _ _ _ _ c.requires.0.small _ c.loop-t-test.true _ _ d i.covered;
    }

pub returns : goal.returns
returns c =
    let i = c.loop-t.invariant in
    record {
      long = c.loop-t.auto.table ∙ search rules;
      before = i.before;
      covered = λ w n walk k h. i.covered w n walk k (omega arith);
    }
