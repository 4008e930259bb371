-- The key has no losses beside those of the cell.
use Rattle.std.proofs.Common.{◌≡◌, ℕ, zero, suc, ◌+◌, eqb, length, get_or, set, refl, sym, ◌∙◌, arith, rules}
use borrow.Author.Tests.{eq-eqb, ne_eqb}
use Rattle.cells.specs.Cells.{share}
use Rattle.cells.proofs.Shares.{share-found}
use Rattle.fill.proofs.alone.Goals as goal

-- a sum is its last part where the rest is nothing
no-rest : (rest own whole : ℕ) → rest + own ≡ whole → eqb whole own ≡ eqb rest 0
no-rest zero own whole e = eq-eqb whole own (omega arith) ∙ sym (eq-eqb 0 0 refl)
no-rest (suc n) own whole e = ne_eqb whole own (λ f. omega arith) ∙ sym (ne_eqb (suc n) 0 (λ f. omega arith))

pub returns : goal.returns
returns c =
    let a = c.args in
    let n : length a.keys ≡ 12 = search rules in
    let key : ℕ = get_or a.keys a.z 0 in
    let found = rw (eq-eqb key key refl) at (share-found a.keys a.lost key a.z (omega arith)) in
    no-rest (share a.keys (set a.lost a.z 0) key) c.from.result c.share.result
    (omega (arith, found, c.from.ensures, c.share.ensures))
