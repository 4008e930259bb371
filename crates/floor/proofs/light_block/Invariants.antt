-- The loop's invariant: a row whose block is in hand is at least the row `last` up to chunk j of the block.
use Rattle.std.proofs.Common.{ℕ, List, ◌+◌, ◌*◌}
use Rattle.bits.specs.Bits.{unpack}
use Rattle.rows.specs.Order.{Row}
use Rattle.message.specs.Layout.{row_bits, block_bits}
use Rattle.floor.specs.Floor.{AtLeast, BlockInHand}
use Rattle.floor.proofs.light_block.Given as goal

abbrev pub invariant-loop-j : goal.invariant-loop-j
invariant-loop-j l =
    (x : List ℕ) → Row (row_bits l.l) x → BlockInHand l.l l.row l.b x → AtLeast (l.b * block_bits l.l) (unpack l.last) x
    → AtLeast ((l.from + l.j) * l.l.nc) (unpack l.last) x
