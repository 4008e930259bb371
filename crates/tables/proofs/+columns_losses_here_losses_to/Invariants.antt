-- The measure is three times the number of the table's loss state, with two, one and none more: only a step to a lower
-- state leads back. The loop over the columns: what finds the rows under the table in hand finds, with what was found
-- before, those under the first. The loop over the lower states: every consistent row that comes to a state below `to` is
-- known.
use Rattle.std.proofs.Common.{◌+◌, ◌*◌, ◌<◌}
use Rattle.found.specs.Found.{Grown}
use Rattle.states.specs.States.{each, state_of}
use Rattle.cells.specs.Cells.{SameBut}
use Rattle.tables.specs.Tables.{Free, own_left, UnderMarks}
use Rattle.tables.proofs.Going.{Going}
use Rattle.tables.proofs.+columns_losses_here_losses_to.Given as goal

abbrev pub decreases-columns : goal.decreases-columns
decreases-columns l = 3 * state_of l.shape (each l.t.left) + 2

abbrev pub decreases-losses_here : goal.decreases-losses_here
decreases-losses_here l = 3 * state_of l.shape (each l.t.left) + 1

abbrev pub decreases-losses_to : goal.decreases-losses_to
decreases-losses_to l = 3 * state_of l.shape (each l.t.left)

abbrev pub invariant-columns-loop-c : goal.invariant-columns-loop-c
invariant-columns-loop-c l =
    Going l.l l.y l.totals l.counts l.numbers l.heavy l.shape l.known l.marks l.rests l.z l.room l.cap
    (UnderMarks l.l l.y l.numbers l.heavy l.shape l.known l.marks l.rests l.z l.fn.sets l.fn.differ l.fn.j l.fn.t l.fn.row)
    (Free l.heavy l.fn.j 0 l.fn.t.cells) l.fn.row l.fn.list l.fn.kept.count l.fn.kept.more
    (state_of l.shape (each l.fn.t.left)) l.row l.list l.now l.held l.apart l.k.count l.k.more l.c

abbrev pub invariant-losses_here-loop-to : goal.invariant-losses_here-loop-to
invariant-losses_here-loop-to l = record {
  known : Grown l.l l.numbers l.y l.cap
      (λ x. UnderMarks l.l l.y l.numbers l.heavy l.shape l.known l.marks l.rests l.z l.sets l.differ l.j l.t l.fn.row x
      × (state_of l.shape (own_left l.l l.y l.heavy x (l.j + 1)) < l.to)) l.fn.list l.fn.kept.count l.fn.kept.more
      l.list l.k.count l.k.more;
  same : SameBut l.l (Free l.heavy l.j 0 l.t.cells) l.fn.row l.row;
}
