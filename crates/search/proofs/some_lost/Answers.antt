use Rattle.std.proofs.Common.{arith}
use Rattle.message.proofs.Legal.{legal_bounds, sizes}
use Rattle.search.proofs.some_lost.Goals as goal

pub overflow_mul-lost : goal.overflow_mul-lost
overflow_mul-lost c = omega (arith, (sizes c.args.l (legal_bounds c.args.l c.requires.0.is_legal)).chunks)
