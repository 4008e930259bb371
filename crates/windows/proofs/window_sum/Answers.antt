-- What the tables give for the next w bits is their sum.
use Rattle.windows.proofs.Windows.{next}
use Rattle.windows.proofs.window_sum.Goals as goal

pub overflow_sub-result : goal.overflow_sub-result
overflow_sub-result c =
    let a = c.args in
    let n = next a.y.now a.p a.w a.totals.now a.counts.now c.requires.0 c.requires.1.1.0 c.requires.1.0 in
    rw c.from-count.ensures n.below

pub returns : goal.returns
returns c =
    let a = c.args in
    let n = next a.y.now a.p a.w a.totals.now a.counts.now c.requires.0 c.requires.1.1.0 c.requires.1.0 in
    rw c.from-count.ensures n.sums
