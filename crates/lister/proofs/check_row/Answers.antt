use Rattle.std.proofs.Common.{sym}
use Rattle.lister.proofs.Row.{above, many, unfit, fit_row}
use Rattle.lister.proofs.check_row.Goals as goal
use Rattle.lister.proofs.check_row.Goals.{then-n-m-via-then-n-m, then-n-m-via-else-n-m+then-n-m-gt-MOST_LOSSES}

pub returns-then-n-m : goal.returns-then-n-m
returns-then-n-m c =
    let a = c.args in
    elim c.then-n-m.branch [
      | then-n-m-via-then-n-m w ↦ above a.n a.row.now a.m w.if-n-m.true
      | then-n-m-via-else-n-m+then-n-m-gt-MOST_LOSSES w ↦ many a.n a.row.now a.m w.if-n-m.false w.if-n-m-gt-MOST_LOSSES.true
    ]

pub returns-then-not-fits : goal.returns-then-not-fits
returns-then-not-fits c =
    let a = c.args in
    unfit a.n a.row.now a.m c.if-n-m.false c.if-n-m-gt-MOST_LOSSES.false (sym c.if-not-fits.ensures)

pub returns : goal.returns
returns c =
    let a = c.args in
    fit_row a.n a.row.now a.m c.if-n-m.false c.if-n-m-gt-MOST_LOSSES.false (sym c.if-not-fits.ensures)
