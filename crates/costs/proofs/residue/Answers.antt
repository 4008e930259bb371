-- What the tactics leave open of `costs::residue`: the modulus is small.
use Rattle.std.proofs.Common.{arith}
use Rattle.message.proofs.Legal.{string_high}
use Rattle.costs.proofs.residue.Goals as goal

pub overflow_mul-m : goal.overflow_mul-m
overflow_mul-m c = record { fits = omega (arith, string_high c.args.l c.requires.0.allowed) }

pub overflow_add-m : goal.overflow_add-m
overflow_add-m c = record { fits = omega (arith, string_high c.args.l c.requires.0.allowed) }
