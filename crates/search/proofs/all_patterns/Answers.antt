-- An early anchor adds consistent rows only, and every row is under no counts, so after the patterns from the start all
-- consistent rows are known.
use Rattle.std.proofs.Common.{ℕ, ◌-◌, inr, refl, arith}
use Rattle.found.proofs.Found.{holding_none, grown_holding, grown_then, grown_weaken, grown_all}
use Rattle.search.proofs.Counts.{received-short, under-start, begun_start, tabled_start}
use Rattle.search.proofs.all_patterns.Goals as goal

pub fill-requires : goal.fill-requires
fill-requires c = let h = received-short c.requires.0 in (c.requires.0.bits, (h, (omega arith, omega arith)))

pub patterns-requires : goal.patterns-requires
patterns-requires c =
    let a = c.args in
    let z : ℕ = a.l.l1 - a.l.l1 in
    let nothing = holding_none a.l a.numbers.now a.y.now a.cap a.list.now c.requires.1.0 in
    let k = c.early_anchor-kept.ensures in
    let tabled = tabled_start c.requires.0 c.fill.ensures z (omega arith) in (
      (c.requires.0, grown_holding nothing k.0),
      (omega arith, (begun_start c.requires.0 _ _ refl z (omega arith), ((c.fill.ensures, tabled), k.1))),
    )

pub returns : goal.returns
returns c =
    let a = c.args in
    let nothing = holding_none a.l a.numbers.now a.y.now a.cap a.list.now c.requires.1.0 in
    let both = grown_then nothing c.early_anchor-kept.ensures.0 c.patterns.ensures.0 in
    grown_all c.requires.1.0
    (grown_weaken (λ x k u. inr (under-start a.l a.y.now _ _ x (a.l.l1 - a.l.l1) (omega arith))) both)
