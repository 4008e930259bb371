-- `column::clear` meets its contract. Assumes nothing.
use Rattle.std.proofs.Common.{◌-◌, arith, rules}
use Rattle.std.proofs.lemmas.List.{places}
use Rattle.column.proofs.clear.Goals as goal

pub returns : goal.returns
returns c =
    let a = c.args in
    let zero = c.fill.ensures.after (λ y h. h) in
    let long = c.fill.ensures.len in
    record {
      size = search (rules, places);
      zeros = λ i h. rw zero (grind (arith, places));
      others = λ k n. grind (arith, places, n (k - a.at));
    }
