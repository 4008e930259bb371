-- `sums::is_short` meets its contract. Assumes nothing.
use Rattle.std.proofs.Common.{arith}
use Rattle.std.proofs.Math.Nat.{mul_comm}
use Rattle.message.proofs.Legal.{legal_bounds, sizes}
use Rattle.sums.proofs.is_short.Goals as goal

pub overflow_mul-l : goal.overflow_mul-l
overflow_mul-l c = omega (arith, (sizes c.args.l (legal_bounds c.args.l c.requires)).block)

pub overflow_mul-result : goal.overflow_mul-result
overflow_mul-result c =
    let l = c.args.l in
    omega (arith, (sizes l (legal_bounds l c.requires)).string, mul_comm l.l1 l.nc)
