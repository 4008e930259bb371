-- What the tactics leave open of `bits::four_bytes`.
use Rattle.std.proofs.Common.{◌∙◌, arith}
use Rattle.bits.proofs.Packing.{bytes_of_each}
use Rattle.bits.proofs.Spans.{number_four}
use Rattle.bits.proofs.four_bytes.Goals as goal

pub returns : goal.returns
returns c =
    let low = bytes_of_each c.args.s.now (λ j. omega (arith, c.type_inv.s j)) in
    (c.from_be_bytes.ensures ∙ number_four c.args.s.now low c.args.i, c.from_be_bytes.type_inv)
