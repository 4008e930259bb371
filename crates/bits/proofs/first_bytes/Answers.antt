-- What the tactics leave open of `bits::first_bytes`.
use Rattle.std.proofs.Common.{arith}
use Rattle.bits.proofs.Packing.{bytes_of_each}
use Rattle.bits.proofs.Spans.{number_four}
use Rattle.bits.proofs.first_bytes.Goals as goal

pub returns : goal.returns
returns c =
    let s = c.args.s.now in
    let low = bytes_of_each s (λ j. omega (arith, c.type_inv.s j)) in
    (omega (arith, number_four s low 0), omega arith)
