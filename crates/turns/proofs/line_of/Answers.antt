-- A legal layout has few chunks, so no number is too large.
use Rattle.std.proofs.Common.{arith}
use Rattle.message.proofs.Legal.{legal_bounds, sizes}
use Rattle.cells.proofs.State.{chunk-low}
use Rattle.turns.proofs.line_of.Goals as goal

pub overflow_add-result : goal.overflow_add-result
overflow_add-result c = omega (arith, sizes c.args.l (legal_bounds c.args.l c.requires.0))

pub overflow_mul-result : goal.overflow_mul-result
overflow_mul-result c =
    omega (arith, chunk-low c.args.l c.requires.0 c.args.i c.args.j c.requires.1.0 c.requires.1.1)
