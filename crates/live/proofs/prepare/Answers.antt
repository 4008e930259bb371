-- What the tactics leave open of `live::prepare`.
use Rattle.std.proofs.Common.{◌+◌, arith}
use Rattle.std.proofs.Math.Nat.{mul-le-mul}
use Rattle.bits.specs.Bits.{most_in_line}
use Rattle.message.proofs.Legal.{legal_bounds, sizes}
use Rattle.live.proofs.prepare.Goals as goal

pub overflow_mul-l : goal.overflow_mul-l
overflow_mul-l c =
    record {
      fits = omega (
        arith,
        mul-le-mul {n₁ = c.args.l.l2 + 1} {m₁ = c.shape_of-shape.result.states} {n₂ = most_in_line + 1} {m₂ = 729}
            (omega (arith, (sizes c.args.l (legal_bounds c.args.l c.requires.0.allowed)).l2_high)) (omega arith),
      );
    }
