use Rattle.std.proofs.Common.{◌∙◌, ap}
use borrow.Author.Tests.{lt-leb}
use lib.Dec.{eqb}
use Rattle.pieces.proofs.Blocks.{sum-short, sum_decides}
use Rattle.pieces.proofs.has_sum.Goals as goal

pub returns-then-nb-rest : goal.returns-then-nb-rest
returns-then-nb-rest c =
    let a = c.args in
    ap (λ n. eqb n a.s) c.window_sum.ensures ∙ sum_decides a.nb a.s a.rest.now c.if-nb-rest.true

pub returns-else-nb-rest : goal.returns-else-nb-rest
returns-else-nb-rest c =
    let a = c.args in
    lt-leb _ _ c.if-nb-rest.false ∙ sum-short a.nb a.s a.rest.now c.if-nb-rest.false
