-- The loop's invariant: what is added so far and the rest of the line make its whole total.
use Rattle.std.proofs.Common.{◌≡◌, ◌+◌, ◌-◌, ◌*◌, ◌≤◌}
use Rattle.vt.specs.Sum.{total as total_of}
use Rattle.message.specs.Chunks.{row_of, picked}
use Rattle.message.proofs.chunks.line_sum.Given as goal

abbrev pub invariant-loop-k : goal.invariant-loop-k
invariant-loop-k l = record {
  small : l.total ≤ 20000 * l.k;
  added : l.total + total_of (l.k * l.nc + 1) (row_of l.nc (picked (l.start + l.k * l.stride) l.stride (l.count - l.k) l.chunks))
      ≡ total_of 1 (row_of l.nc (picked l.start l.stride l.count l.chunks));
}
