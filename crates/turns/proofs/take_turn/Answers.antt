use Rattle.std.proofs.Common.{sym, ◌∙◌, arith}
use Rattle.std.proofs.lemmas.Bool.{false≢true}
use borrow.Author.Tests.{not-true}
use Rattle.turns.proofs.Advance.{advanced_next, falls}
use Rattle.turns.proofs.take_turn.Goals as goal

-- the cell that is found is one that was open
pub returns-then-not-t : goal.returns-then-not-t
returns-then-not-t c = (
  advanced_next c.loop-z.invariant (omega (arith, c.in-Some.ensures.1.one)) c.mend_one-t.ensures,
  λ e. absurd (false≢true (sym (not-true _ c.if-not-t.true) ∙ e)),
)

pub loop-z-smaller : goal.loop-z-smaller
loop-z-smaller c = falls c.loop-z.invariant (omega (arith, c.in-Some.ensures.1.one)) c.mend_one-t.ensures

pub loop-z-preserved : goal.loop-z-preserved
loop-z-preserved c = advanced_next c.loop-z.invariant (omega (arith, c.in-Some.ensures.1.one)) c.mend_one-t.ensures
