-- The loop's invariant: the sums of the columns passed, of the row without the heavy blocks' chunks, are known.
use Rattle.std.proofs.Common.{◌≡◌, ℕ, ◌*◌, ◌+◌, ◌%◌, ◌<◌, get_or}
use Rattle.vt.specs.Sum.{total}
use Rattle.lines.specs.Lines.{line}
use Rattle.column.proofs.light_sums.Given as goal

abbrev pub invariant-loop-j : goal.invariant-loop-j
invariant-loop-j l =
    (i : ℕ) → i < l.j → get_or l.sum-items i 0 ≡ total 1 (line l.l.nc i l.l.l2 l.l.l1 l.row) % (l.l.l1 * l.l.nc + 1)
