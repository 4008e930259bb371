-- What is left of the total of the positions.
use Rattle.std.proofs.Common.{ℕ, ◌+◌, ◌*◌, ◌%◌, ap, ◌∙◌}
use Rattle.lines.proofs.Turns.{sum_of_total}
use Rattle.lines.proofs.line_sum.Goals as goal

pub returns : goal.returns
returns c =
    let a = c.args in
    ap (λ (t : ℕ). t % (a.count * a.nc + 1)) c.line_total.ensures
    ∙ sum_of_total a.nc a.start a.stride a.count a.vs.now
