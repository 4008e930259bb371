-- What the tactics leave open of `costs::can_be_whole`.
use Rattle.std.proofs.Common.{sym, ◌∙◌}
use Rattle.costs.proofs.Costs.{kept-sum, read_but}
use Rattle.costs.proofs.can_be_whole.Goals as goal

-- the sum of a row's chunks is among the sums
pub returns : goal.returns
returns c row vs left next light less crosses kept =
    let a = c.args in
    let q = c.requires.0 in
    let was = c.fill_sums.ensures left (read_but crosses a.size a.heavy.n less (λ t h d. kept t h)) in
    let at = kept-sum crosses q.fit q.column a.known.now light kept ∙ sym c.from.ensures in
    c.holds.ensures (rw at at was)
