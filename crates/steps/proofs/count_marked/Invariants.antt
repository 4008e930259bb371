-- The loop's invariant: the counts up to a state are made.
use Rattle.steps.specs.Steps.{Counts}
use Rattle.steps.proofs.count_marked.Given as goal

abbrev pub invariant-loop-q : goal.invariant-loop-q
invariant-loop-q l = Counts l.fn.marks l.fn.at l.q l.some
