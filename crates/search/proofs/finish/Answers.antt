-- Every row under the whole pattern is the row in hand, or it is under the table that starts with the heavy blocks.
use Rattle.std.proofs.Common.{◌≡◌, ℕ, ◌+◌, ◌*◌, ◌≤◌, true, List, length, take, drop, refl, sym, ◌∙◌, arith, rules, length-drop, get_or-take, get_or-drop}
use Rattle.std.proofs.lemmas.List.{length-take-le}
use Rattle.bits.specs.Bits.{most_chunks, most_in_line}
use Rattle.bits.proofs.Laws.{zeros-at}
use Rattle.rows.specs.Held.{Held}
use Rattle.message.specs.declared.Layout.{Layout}
use Rattle.message.proofs.Legal.{legal_bounds, sizes}
use Rattle.found.specs.Found.{Given}
use Rattle.found.proofs.Found.{grown_weaken}
use Rattle.anchor.specs.Anchor.{is_set, Anchored}
use Rattle.anchor.proofs.Anchor.{set_long, near-known}
use Rattle.tables.specs.Tables.{NearKnown}
use Rattle.search.proofs.Leaves.{all_in_hand, starts-sound, starts-under}
use Rattle.search.proofs.finish.Goals as goal

-- the anchor's chunks on the desk, and that rows near them are known
anchor-part : (desk : List ℕ) → is_set desk ≡ true → length (take most_chunks (drop 1 desk)) ≡ most_chunks
anchor-part desk e = length-take-le most_chunks (drop 1 desk) (omega (arith, length-drop 1 desk, set_long desk e))

anchor-near : (l : Layout) (numbers y : List ℕ) (held : Held) (desk : List ℕ) → Given l numbers y → l.l1 * l.l2 ≤ most_chunks
    → Anchored l numbers y held desk → is_set desk ≡ true → NearKnown l numbers y held (take most_chunks (drop 1 desk)) (l.r + 1)
anchor-near l numbers y held desk given small a e x sent near =
    near-known given (a e) (take most_chunks (drop 1 desk))
    (λ c h. get_or-take most_chunks (drop 1 desk) c 0 (omega arith) ∙ get_or-drop 1 desk c 0) x sent (omega (arith, near))

pub heavy_of-hs-requires : goal.heavy_of-hs-requires
heavy_of-hs-requires c =
    let l = c.args.l in
    ((sizes l (legal_bounds l c.requires.0.is_legal)).l1_high, c.requires.1.1.0.0)

pub returns-then-heavy-eq0 : goal.returns-then-heavy-eq0
returns-then-heavy-eq0 c =
    let a = c.args in
    let f = c.heavy_of-hs in
    grown_weaken
    (λ x k u. all_in_hand a.l a.y.now a.pattern.counts f.result.heavy f.result.left f.ensures
    (legal_bounds a.l c.requires.0.is_legal).l2_low c.if-heavy-eq0.true _ x u)
    c.add_row.ensures

pub tables-requires : goal.tables-requires
tables-requires c =
    let a = c.args in
    let f = c.heavy_of-hs in
    let chunks = (sizes a.l (legal_bounds a.l c.requires.0.is_legal)).chunks in
    let sound = starts-sound a.l a.pattern.counts f.result.heavy _ f.ensures refl (zeros-at 12) (length a.y.now)
    c.requires.1.1.0.0 in
    let set = sym c.is_set.ensures ∙ c.if-is_set.true in (
      (c.requires.0, c.requires.1.0),
      (
        (sound, refl),
        (
          c.requires.1.1.1.0,
          (
            (c.requires.1.1.0.1, omega (arith, anchor-part a.desk.now set, chunks)),
            anchor-near a.l a.numbers.now a.y.now _ a.desk.now c.requires.0 chunks c.requires.1.1.1.1 set,
          ),
        ),
      ),
    )

pub returns-then-is_set : goal.returns-then-is_set
returns-then-is_set c =
    let a = c.args in
    let f = c.heavy_of-hs in
    let n : length a.pattern.counts ≡ most_in_line = search rules in
    let high = (sizes a.l (legal_bounds a.l c.requires.0.is_legal)).l1_high in
    grown_weaken
    (λ x k u. starts-under a.l a.pattern.counts f.result.heavy _ f.ensures refl (zeros-at 12) a.y.now (omega (arith, high))
    a.row.now x u)
    c.tables.ensures.0

pub tables-requires-2 : goal.tables-requires-2
tables-requires-2 c =
    let a = c.args in
    let f = c.heavy_of-hs in
    let chunks = (sizes a.l (legal_bounds a.l c.requires.0.is_legal)).chunks in
    let sound = starts-sound a.l a.pattern.counts f.result.heavy _ f.ensures refl (zeros-at 12) (length a.y.now)
    c.requires.1.1.0.0 in (
      (c.requires.0, c.requires.1.0),
      (
        (sound, refl),
        (
          c.requires.1.1.1.0,
          ((c.requires.1.1.0.1, omega (arith, chunks)), λ x sent near. absurd (omega (arith, near))),
        ),
      ),
    )

pub returns : goal.returns
returns c =
    let a = c.args in
    let f = c.heavy_of-hs in
    let n : length a.pattern.counts ≡ most_in_line = search rules in
    let high = (sizes a.l (legal_bounds a.l c.requires.0.is_legal)).l1_high in
    grown_weaken
    (λ x k u. starts-under a.l a.pattern.counts f.result.heavy _ f.ensures refl (zeros-at 12) a.y.now (omega (arith, high))
    a.row.now x u)
    c.tables-2.ensures.0
