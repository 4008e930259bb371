-- `weigh::more_ones` meets its contract. Assumes nothing.
use Rattle.std.proofs.Common.{sym, ◌∙◌, arith}
use Rattle.weigh.proofs.Runs.{any-ones, zeros-lost, ones-lost}
use Rattle.weigh.proofs.more_ones.Goals as goal

pub returns-then-lost-eq0 : goal.returns-then-lost-eq0
returns-then-lost-eq0 c =
    let a = c.args in
    any-ones a.y.now a.place a.w a.lost c.requires.0 c.requires.1.1.1

pub returns-then-next-eq0 : goal.returns-then-next-eq0
returns-then-next-eq0 c =
    let a = c.args in
    zeros-lost a.y.now a.place a.w a.lost c.requires.0 c.requires.1.1.1 (omega arith)
    (sym c.look-next.ensures.count ∙ c.if-next-eq0.true)

pub returns-then-next-w : goal.returns-then-next-w
returns-then-next-w c =
    let a = c.args in
    ones-lost a.y.now a.place a.w a.lost c.requires.0 c.requires.1.1.1 (omega arith)
    (sym c.look-next.ensures.count ∙ c.if-next-w.true)

pub returns-else-next-w : goal.returns-else-next-w
returns-else-next-w c =
    let a = c.args in
    any-ones a.y.now a.place a.w a.lost c.requires.0 c.requires.1.1.1
