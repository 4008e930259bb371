-- The loop's invariant: the cells found so far are found rightly. The measure is the losses that are open.
use Rattle.consistent.specs.Greedy.{in_all}
use Rattle.turns.specs.Turns.{Advanced}
use Rattle.turns.proofs.take_turn.Given as goal

abbrev pub invariant-loop-z : goal.invariant-loop-z
invariant-loop-z l = Advanced l.l l.numbers l.y l.fn.cells l.fn.row l.t l.row

abbrev pub decreases-loop-z : goal.decreases-loop-z
decreases-loop-z l = in_all l.t.cells.lost
