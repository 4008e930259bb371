-- The loop's invariant: whether the sums agree is up to those that are left.
use Rattle.std.proofs.Common.{◌≡◌, drop}
use Rattle.bits.specs.Bits.{same}
use Rattle.message.specs.Chunks.{row_of}
use Rattle.message.specs.Message.{sums}
use Rattle.consistent.proofs.sums_agree.Given as goal

abbrev pub invariant-loop-k : goal.invariant-loop-k
invariant-loop-k l =
    let s = sums l.row.layout (row_of l.row.layout.nc l.row.chunks.now) in
    same (drop l.k s) (drop l.k l.numbers) ≡ same s l.numbers
