-- What the tactics leave open of `bits::whole_byte`.
use Rattle.std.proofs.Common.{◌+◌, ◌*◌, ℕ, List, drop, sym, ap, ap₂, ◌∙◌, drop-drop}
use Rattle.bits.specs.Bits.{number}
use Rattle.bits.proofs.Spans.{number-add}
use Rattle.bits.proofs.whole_byte.Goals as goal

pub returns : goal.returns
returns c =
    let a = c.args in
    let x : List ℕ = drop a.at a.bits.now in
    ap₂ (λ (m n : ℕ). m * 16 + n) c.four_bits.ensures.0
    (c.four_bits-2.ensures.0 ∙ ap (number 4) (sym (drop-drop 4 a.at a.bits.now)))
    ∙ sym (number-add 4 4 x)
