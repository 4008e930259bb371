use Rattle.std.proofs.Common.{◌+◌, ◌*◌, set, arith}
use Rattle.rests.specs.Rests.{Filled}
use Rattle.rests.proofs.Rests.{filled_next}
use Rattle.rests.proofs.fill_block.Goals as goal
use Rattle.rests.proofs.fill_block.Goals.{After-from}

-- one entry more is filled
filled : (c : After-from) →
    let a = c.args in
    Filled a.l a.y.now a.block a.end a.c a.s (c.loop-left.left + 1) a.rests.now
    (set c.loop-left.rests (a.c * 78 + a.s * 13 + c.from.result) c.with_chunks-set.result)
filled c =
    let p = c.requires.1 in
    let t = c.loop-left in
    filled_next _ _ _ _ _ _ t.left _ t.rests t.invariant (omega (arith, p.0.1)) p.0.0
    (omega (arith, p.1, t.invariant.long)) _ _ (omega (arith, c.from.ensures)) c.with_chunks-set.ensures

pub loop-left-preserved : goal.loop-left-preserved
loop-left-preserved c = filled (goal.at.loop-left-preserved c).After-from

pub returns-2 : goal.returns-2
returns-2 c =
    let f = filled (goal.at.returns-2 c).After-from in
    record { long = f.long; others = f.others; put = λ left h. f.put left (omega arith) }
