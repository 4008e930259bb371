-- The loop's invariant: what is added so far and the rest of the line make its whole total.
use Rattle.std.proofs.Common.{◌≡◌, ◌+◌, ◌-◌, ◌*◌}
use Rattle.vt.specs.Sum.{total}
use Rattle.lines.specs.Lines.{line}
use Rattle.lines.proofs.line_total.Given as goal

abbrev pub invariant-loop-t : goal.invariant-loop-t
invariant-loop-t l =
    l.sum + total (l.t * l.nc + 1) (line l.nc (l.start + l.t * l.stride) l.stride (l.count - l.t) l.vs)
    ≡ total 1 (line l.nc l.start l.stride l.count l.vs)
