use Rattle.std.proofs.Common.{◌≡◌, ℕ, true, ◌+◌, ◌<◌, ◌≤◌, length, take, get_or, sym, ap, ◌∙◌, arith}
use borrow.Author.Tests.{ltb-true}
use lib.Dec.{ltb}
use lib.Seq.{length-take-le, get_or-take}
use Rattle.message.specs.Layout.{row_bits}
use Rattle.message.proofs.Legal.{legal_bounds, sizes}
use Rattle.consistent.specs.Greedy.{in_all}
use Rattle.anchor.specs.Anchor.{is_set}
use Rattle.anchor.proofs.Anchor.{counted_none, counted_next, counted-known, set_long}
use Rattle.anchor.proofs.Totals.{total-none, total-next, total-grows}
use Rattle.anchor.proofs.near_anchor.Goals as goal
use Rattle.anchor.proofs.near_anchor.Goals.{At-loop-b, After-from-a}

-- as many counts are passed as there are
all : (c : At-loop-b) → length (take c.args.i c.args.counts.now) ≡ c.args.i
all c = length-take-le c.args.i c.args.counts.now (omega (arith, c.requires.1.0.1, c.requires.1.1.0))

-- no more bits are lost than in all
few : (c : At-loop-b) → c.loop-b.d + length c.args.y.now ≤ row_bits c.args.l
few c =
    let b : c.loop-b.b ≤ c.args.i = omega (arith, all c) in
    omega (arith, c.requires.1.1.1, c.loop-b.invariant.lost, total-grows c.args.counts.now c.loop-b.b c.args.i b)

-- the desk has an anchor, so it is long enough
there : (c : At-loop-b) → is_set c.args.desk.now ≡ true
there c = sym c.is_set.ensures ∙ c.if-not-is_set.false

-- the count of a turn
count : (c : After-from-a) → (c.from-a.result ≡ get_or c.args.counts.now c.loop-b.b 0) × (c.loop-b.b < c.args.i)
count c =
    let b : c.loop-b.b < c.args.i = omega (arith, all (goal.at.After-from-a c).At-loop-b) in
    (c.from-a.ensures ∙ get_or-take c.args.i c.args.counts.now c.loop-b.b 0 b, b)

pub loop-b-init : goal.loop-b-init
loop-b-init c =
    let a = c.args in
    record {
      lost = sym (total-none a.counts.now);
      small = omega arith;
      counted = counted_none c.requires.0 a.desk.now a.counts.now a.row.now a.i;
    }

pub block_most-most-requires : goal.block_most-most-requires
block_most-most-requires c =
    let at = goal.at.block_most-most-requires c in
    let n = count at.After-from-a in
    let byte : c.from-a.result ≤ 255 = omega (arith, n.0, (c.type_inv.counts c.loop-b.b).fits) in
    ((c.requires.0, set_long c.args.desk.now (there at.At-loop-b)), (c.requires.1.0.0, (omega (arith, n.1, c.requires.1.1.0), (omega (arith, few at.At-loop-b, c.requires.0.few), byte))))

pub overflow_add-d : goal.overflow_add-d
overflow_add-d c =
    let at = goal.at.overflow_add-d c in
    omega (arith, few at.At-loop-b, c.requires.0.few, (count at.After-from-a).0, (c.type_inv.counts c.loop-b.b).fits)

pub loop-b-preserved : goal.loop-b-preserved
loop-b-preserved c =
    let p = c.loop-b in
    let a = c.args in
    let n = count (goal.at.loop-b-preserved c).After-from-a in
    let long : p.b < length a.counts.now = omega (arith, n.1, c.requires.1.0.1, c.requires.1.1.0) in
    let most = rw (p.invariant.lost, n.0) at c.block_most-most.ensures.0 in
    record {
      lost = omega (arith, p.invariant.lost, n.0, total-next a.counts.now p.b long);
      small = omega (arith, c.if-least-most.false);
      counted =
          counted_next c.requires.0 a.desk.now a.counts.now a.row.now a.i p.b p.most c.block_most-most.result n.1
          (omega (arith, n.1, c.requires.1.1.0)) most p.invariant.counted;
    }

pub bounds-desk-d : goal.bounds-desk-d
bounds-desk-d c =
    let at = (goal.at.bounds-desk-d c).At-loop-b in
    let size = sizes c.args.l (legal_bounds c.args.l c.requires.0.is_legal) in
    omega (arith, few at, c.requires.0.few, size.l1_high, c.requires.1.1.0, set_long c.args.desk.now (there at))

at_most : (a b c : ℕ) → c ≤ b + 1 → ltb a c ≡ true → a ≤ b
at_most a b c h e = omega (arith, ltb-true a c e)

pub returns : goal.returns
returns c =
    let at = (goal.at.returns c).At-loop-b in
    let p = c.loop-b in
    let a = c.args in
    let e : p.b ≡ a.i = omega (arith, all at) in
    let d : p.d ≡ in_all (take a.i a.counts.now) =
    p.invariant.lost ∙ ap (λ (n : ℕ). in_all (take n a.counts.now)) e in
    λ small held x anchored sent own light.
    counted-known c.requires.0 a.desk.now a.counts.now a.row.now a.i p.most c.requires.1.1.0
    (rw e at p.invariant.counted)
    (rw (← d, ← c.from.ensures) (at_most _ _ _ (omega arith) small)) held x (anchored (there at)) sent own light
