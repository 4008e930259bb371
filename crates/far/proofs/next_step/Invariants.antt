-- The loop's invariant: the entries passed are those of the next step, one more than each entry passed is at most the count
-- kept, and what comes before them stays.
use Rattle.far.proofs.Walks.{Stepping}
use Rattle.far.proofs.next_step.Given as goal

abbrev pub invariant-loop-w : goal.invariant-loop-w
invariant-loop-w l = Stepping l.l l.y l.heavy l.z l.s l.size l.ahead l.at l.t l.initial.table l.table l.most l.w
