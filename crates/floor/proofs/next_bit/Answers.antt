use Rattle.std.proofs.Common.{◌≡◌, ℕ, zero, suc, ◌<◌, List, [], ◌∷◌, get_or, length, refl, ◌∙◌, arith}
use Rattle.bits.proofs.Laws.{bit_at}
use Rattle.floor.proofs.next_bit.Goals as goal

-- inside a string it matters not what stands past its end
either : (y : List ℕ) (p : ℕ) → p < length y → get_or y p 0 ≡ get_or y p 1
either [] p h = absurd (omega arith)
either (b ∷ y) zero h = refl
either (b ∷ y) (suc p) h = either y p (omega arith)

pub returns-then-p-y : goal.returns-then-p-y
returns-then-p-y c =
    let a = c.args in (
      c.from.ensures ∙ either a.y.now a.p c.if-p-y.true,
      omega (arith, c.from.ensures, bit_at a.y.now c.requires a.p),
    )
