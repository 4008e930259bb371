-- What the tactics leave open of `bits::BitCursor::take`.
use Rattle.std.proofs.Common.{◌+◌, ◌-◌, ℕ, ◌∙◌, arith}
use Rattle.bits.specs.Bits.{unpack}
use Rattle.bits.proofs.Laws.{bits-unpack}
use Rattle.bits.proofs.Spans.{number_in_four}
use Rattle.bits.proofs.BitCursor.take.Goals as goal

pub returns : goal.returns
returns c =
    let a = c.args in
    let behind : ℕ = 32 - (a.self.at + a.k) in
    let is = number_in_four 0 a.self.at a.k behind (unpack a.s.now) (bits-unpack a.s.now) (omega arith) (omega arith) in
    (c.cut.ensures.0 ∙ rw c.first_bytes.ensures.0 is, c.cut.ensures.1)
