-- What the tactics leave open of `bits::bit_at`.
use Rattle.std.proofs.Common.{sym}
use Rattle.bits.proofs.Packing.{unpack-at}
use Rattle.bits.proofs.bit_at.Goals as goal

pub returns : goal.returns
returns c = sym (unpack-at c.args.s.now c.args.i)
