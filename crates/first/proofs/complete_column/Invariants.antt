-- What `first::complete_column` keeps in its loop: the states passed have their marks and levels.
use Rattle.std.proofs.Common.{◌≤◌}
use Rattle.states.specs.States.{each}
use Rattle.near.specs.Near.{most}
use Rattle.first.proofs.First.{Completing}
use Rattle.first.proofs.complete_column.Given as goal

abbrev pub invariant-loop-q : goal.invariant-loop-q
invariant-loop-q l =
    Completing l.l l.y l.numbers l.heavy l.known l.shape l.j l.at l.base l.initial.marks
    (λ left. l.room ≤ most l.l.l2 l.before l.after (each l.shape.size) left l.j l.shape.n) l.marks l.levels l.highest l.q
