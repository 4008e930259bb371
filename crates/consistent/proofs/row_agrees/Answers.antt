use Rattle.std.proofs.Common.{◌∙◌, ◌+◌, sym}
use borrow.Author.Rules.{part_to_end}
use Rattle.message.specs.Chunks.{row_of}
use Rattle.consistent.proofs.Candidate.{sums_differ, sums_same}
use Rattle.consistent.proofs.row_agrees.Goals as goal

pub returns-then-sums_agree : goal.returns-then-sums_agree
returns-then-sums_agree c =
    let r = c.args.row.now in
    rw (part_to_end c.args.numbers.now (r.layout.l1 + r.layout.l2)) at c.checks_agree.ensures
    ∙ sums_same r.layout (row_of r.layout.nc r.chunks.now) c.args.numbers.now c.requires (sym c.if-sums_agree.ensures)

pub returns-else-sums_agree : goal.returns-else-sums_agree
returns-else-sums_agree c =
    let r = c.args.row.now in
    let e = sym c.if-sums_agree.ensures in
    c.if-sums_agree.false ∙ sums_differ r.layout (row_of r.layout.nc r.chunks.now) c.args.numbers.now c.requires e
