-- The chunk stands in the row, which has few chunks.
use Rattle.std.proofs.Common.{arith}
use Rattle.message.proofs.Legal.{legal_bounds, sizes}
use Rattle.cells.proofs.State.{chunk_inside}
use Rattle.recover.proofs.chunk_of.Goals as goal

pub overflow_mul-result : goal.overflow_mul-result
overflow_mul-result c =
    let l = c.args.l in
    let q = c.requires.1.1 in
    rw c.from-i.ensures
    (omega (arith, chunk_inside l _ _ q.0 q.1, (sizes l (legal_bounds l c.requires.0)).chunks))

pub overflow_add-result : goal.overflow_add-result
overflow_add-result c =
    let l = c.args.l in
    let q = c.requires.1.1 in
    rw (c.from-i.ensures, c.from-j.ensures)
    (omega (arith, chunk_inside l _ _ q.0 q.1, (sizes l (legal_bounds l c.requires.0)).chunks))
