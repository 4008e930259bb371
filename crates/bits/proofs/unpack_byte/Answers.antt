-- What the tactics leave open of `bits::unpack_byte`.
use Rattle.std.proofs.Common.{◌+◌, ◌/◌, ◌%◌, ◌∷◌, ◌++◌, [], ℕ, take, drop, sym, ap, ◌∙◌, div-one}
use Rattle.bits.specs.Bits.{digits}
use Rattle.bits.proofs.Copy.{stored_eight}
use Rattle.bits.proofs.unpack_byte.Goals as goal

pub returns : goal.returns
unfolding digits
returns c =
    let a = c.args in
    let b : ℕ = a.b in
    stored_eight a.out.now a.at (b / 128 % 2) (b / 64 % 2) (b / 32 % 2) (b / 16 % 2) (b / 8 % 2) (b / 4 % 2)
    (b / 2 % 2) (b % 2) c.requires
    ∙ ap (λ (v : ℕ). take a.at a.out.now
    ++ (b / 128 % 2 ∷ b / 64 % 2 ∷ b / 32 % 2 ∷ b / 16 % 2 ∷ b / 8 % 2 ∷ b / 4 % 2 ∷ b / 2 % 2 ∷ v % 2 ∷ [])
    ++ drop (a.at + 8) a.out.now) (sym (div-one b))
