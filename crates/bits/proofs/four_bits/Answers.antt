-- What the tactics leave open of `bits::four_bits`.
use Rattle.std.proofs.Common.{arith}
use Rattle.bits.proofs.Spans.{number-bits}
use Rattle.bits.proofs.four_bits.Goals as goal

pub returns : goal.returns
returns c = (
  rw (c.from.ensures, c.from-2.ensures, c.from-3.ensures, c.from-4.ensures)
      (number-bits c.args.bits.now c.requires.0 c.args.at c.requires.1),
  omega arith,
)
