use Rattle.std.proofs.Common.{◌∙◌, sym}
use Rattle.consistent.proofs.Candidate.{comes_not_candidate, comes-candidate}
use Rattle.consistent.proofs.is_consistent.Goals as goal

pub returns-then-comes : goal.returns-then-comes
returns-then-comes c =
    let a = c.args in
    c.agrees.ensures ∙ comes-candidate a.l.layout a.numbers.now a.y.now a.x.now (sym c.if-comes.ensures)

pub returns-else-comes : goal.returns-else-comes
returns-else-comes c =
    let a = c.args in
    c.if-comes.false ∙ comes_not_candidate a.l.layout a.numbers.now a.y.now a.x.now (sym c.if-comes.ensures)
