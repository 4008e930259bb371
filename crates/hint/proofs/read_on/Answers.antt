-- Each element of a string of bits is one.
use Rattle.std.proofs.Common.{◌-◌, ◌∙◌, ap, length, arith}
use Rattle.std.specs.Option.{unwrap_or}
use Rattle.std.proofs.lemmas.Option.{unwrap_or-slice_get}
use Rattle.bits.proofs.Laws.{bit_at}
use Rattle.hint.proofs.read_on.Goals as goal

pub returns-then-j-y : goal.returns-then-j-y
returns-then-j-y c = bit_at c.args.y.now c.requires c.args.j

pub returns-else-j-y : goal.returns-else-j-y
returns-else-j-y c =
    let y = c.args.y.now in
    let last = ap (λ o. unwrap_or o 0) (c.copied.ensures ∙ c.last.ensures.value) in
    omega (
      arith,
      c.unwrap_or.ensures ∙ last ∙ unwrap_or-slice_get y (length y - 1) 0,
      bit_at y c.requires (length y - 1),
    )
