-- The starts, counted from the number of powers.
use Rattle.std.proofs.Common.{arith}
use Rattle.field.proofs.Powers.{start-at}
use Rattle.field.proofs.base_of.Goals as goal

pub overflow_sub-result : goal.overflow_sub-result
overflow_sub-result c = omega (arith, start-at c.args.nc c.requires.0 c.requires.1)

pub overflow_sub-result-2 : goal.overflow_sub-result-2
overflow_sub-result-2 c = omega (arith, start-at c.args.nc c.requires.0 c.requires.1)

pub returns : goal.returns
returns c = omega (arith, start-at c.args.nc c.requires.0 c.requires.1)
