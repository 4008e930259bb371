-- The measures: thrice the losses that are still open, and more for the functions that find no cell. The loop's invariant:
-- every consistent row under the state whose chunk at the cell is among the contents tried is known, and the row in hand
-- is as at entry but for the open cells.
use Rattle.std.proofs.Common.{◌+◌, ◌*◌}
use Rattle.consistent.specs.Greedy.{in_all}
use Rattle.found.specs.Found.{Grown}
use Rattle.cells.specs.Cells.{OpenAt, SameBut}
use Rattle.fill.specs.Fill.{Tried}
use Rattle.fill.proofs.+try_content_try_contents_try_each.Given as goal

abbrev pub decreases-try_content : goal.decreases-try_content
decreases-try_content l = 3 * in_all l.cells.lost

abbrev pub decreases-try_contents : goal.decreases-try_contents
decreases-try_contents l = 3 * in_all l.cells.lost + 2

abbrev pub decreases-try_each : goal.decreases-try_each
decreases-try_each l = 3 * in_all l.cells.lost + 1

abbrev pub invariant-try_each-loop-v : goal.invariant-try_each-loop-v
invariant-try_each-loop-v l = record {
  known : Grown l.l l.numbers l.y l.cap (Tried l.l l.y l.cells l.fn.row l.z l.v-items l.v-index)
      l.fn.list l.fn.kept.count l.fn.kept.more l.list l.held.count l.held.more;
  same : SameBut l.l (OpenAt l.cells) l.fn.row l.row;
}
