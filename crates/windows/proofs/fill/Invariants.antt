-- The loop's invariant: the tables are filled up to place i.
use Rattle.windows.proofs.Windows.{Filled}
use Rattle.windows.proofs.fill.Given as goal

abbrev pub invariant-loop-i : goal.invariant-loop-i
invariant-loop-i l = Filled l.y l.totals l.counts l.i
