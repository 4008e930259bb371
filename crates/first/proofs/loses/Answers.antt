-- What the tactics leave open of `first::loses`.
use Rattle.std.proofs.Common.{sym, ◌∙◌, true≢false, arith, below_more}
use Rattle.first.proofs.loses.Goals as goal
use Rattle.first.proofs.loses.Goals.{else-leads-via-then-leads+else-loses_one, else-leads-via-else-leads}

-- no row loses its one bit in block s
pub loop-s-preserved : goal.loop-s-preserved
loop-s-preserved c =
    below_more _ _ c.loop-s.invariant
    (λ row vs known next light sum crosses one low mark.
    elim c.else-leads.branch [
      | else-leads-via-then-leads+else-loses_one w ↦
          true≢false (sym (w.loses_one.ensures row vs known next light sum crosses one) ∙ w.if-loses_one.false)
      | else-leads-via-else-leads w ↦
          true≢false (sym (c.leads.ensures.1 (omega (arith, one.0)) low mark) ∙ w.if-leads.false)
    ])

-- all blocks are passed
pub returns : goal.returns
returns c row vs known next s h light sum crosses one low mark =
    absurd (c.loop-s.invariant s (omega arith) row vs known next light sum crosses one low mark)
