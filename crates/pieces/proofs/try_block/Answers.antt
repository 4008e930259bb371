-- None and one loss are settled by the block's bits, two or more by how many bits remain.
use Rattle.std.proofs.Common.{arith}
use Rattle.message.proofs.Legal.{legal_bounds, sizes}
use Rattle.pieces.proofs.Blocks.{too_many, tried_long}
use Rattle.pieces.proofs.try_block.Goals as goal

pub overflow_mul-nb : goal.overflow_mul-nb
overflow_mul-nb c = omega (arith, (sizes c.args.l (legal_bounds c.args.l c.requires.0)).block)

pub returns-then-a-nb : goal.returns-then-a-nb
returns-then-a-nb c =
    let a = c.args in
    tried_long a.l _ a.i a.a a.rest.now a.row.now (omega arith) c.if-a-nb.true

pub returns-else-a-nb : goal.returns-else-a-nb
returns-else-a-nb c =
    let a = c.args in
    too_many a.l _ a.i a.a a.rest.now a.row.now c.if-a-nb.false
