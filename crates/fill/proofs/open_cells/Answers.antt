use Rattle.std.proofs.Common.{◌≡◌, ℕ, ◌+◌, cond, ltb, List, ◌∷◌, count_by, length, refl, sym, ◌∙◌, arith, rules}
use Rattle.std.proofs.iter.runs.Made.{chains}
use Rattle.std.proofs.lemmas.List.Recursion.{is_count_by}
use Rattle.std.proofs.lemmas.List.Sums.{count_by-le-length}
use Rattle.std.proofs.lemmas.Bool.Decides.{nat_tests}
use Rattle.erasures.specs.Erasures.{weight}
use Rattle.fill.proofs.open_cells.Goals as goal

-- so many numbers are above 0
weight-cons : (x : ℕ) (xs : List ℕ) → weight (x ∷ xs) ≡ cond (ltb 0 x) (1 + weight xs) (weight xs)
unfolding weight
weight-cons x xs = grind (arith, nat_tests)

weight-counts : (xs : List ℕ) → weight xs ≡ count_by (λ x. ltb 0 x) xs
unfolding weight
weight-counts = is_count_by weight (λ x. ltb 0 x) refl weight-cons

pub returns : goal.returns
returns c =
    let lost = c.args.lost in
    let long : length lost ≡ 12 = search rules in
    let n : c.count.result ≡ count_by (λ x. ltb 0 x) lost = search (rules, chains) in
    (n ∙ sym (weight-counts lost), omega (arith, n, count_by-le-length (λ x. ltb 0 x) lost))
