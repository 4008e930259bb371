use borrow.Author.Tests.{not-true}
use Rattle.turns.proofs.Advance.{grown_failed, grown_advanced}
use Rattle.turns.proofs.+mend_blocks_mend_strings.Goals as goal

pub mend_blocks-returns-then-not-t : goal.mend_blocks-returns-then-not-t
mend_blocks-returns-then-not-t t c = grown_failed c.take_turn-t.ensures.0 c.requires.1.0 (not-true _ c.if-not-t.true)

pub mend_blocks-returns-then-not-t-2 : goal.mend_blocks-returns-then-not-t-2
mend_blocks-returns-then-not-t-2 t c = grown_advanced c.take_turn-t.ensures.0 c.fill.ensures

pub mend_blocks-returns : goal.mend_blocks-returns
mend_blocks-returns t c = grown_advanced c.take_turn-t.ensures.0 c.mend_strings.ensures

pub mend_strings-returns-then-not-t : goal.mend_strings-returns-then-not-t
mend_strings-returns-then-not-t t c = grown_failed c.take_turn-t.ensures.0 c.requires.1.0 (not-true _ c.if-not-t.true)

pub mend_strings-returns-then-not-t-2 : goal.mend_strings-returns-then-not-t-2
mend_strings-returns-then-not-t-2 t c = grown_advanced c.take_turn-t.ensures.0 c.fill.ensures

pub mend_strings-returns : goal.mend_strings-returns
mend_strings-returns t c = grown_advanced c.take_turn-t.ensures.0 c.mend_blocks.ensures
