-- The loop's invariant: the sums before this one are put.
use Rattle.std.proofs.Common.{◌-◌, take, drop}
use Rattle.message.specs.Chunks.{row_of}
use Rattle.message.specs.Message.{sums}
use Rattle.message.proofs.Placing.{Placed}
use Rattle.message.proofs.writing.put_sums.Given as goal

abbrev pub invariant-loop-i : goal.invariant-loop-i
invariant-loop-i l =
    Placed l.fn.start l.fn.out l.k
    (take l.count (drop l.first (sums l.row.layout (row_of l.row.layout.nc l.row.chunks.now)))) (l.i - l.first) l.f l.out
