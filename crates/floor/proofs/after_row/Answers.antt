use Rattle.std.proofs.Common.{◌≡◌, ℕ, List, ◌<◌, ◌≤◌, refl, sym, inr, length, get_or, ◌∙◌, arith}
use native.Mathlib.Nat.{zero-mul}
use lib.Seq.{length-take-le, get_or-take}
use Rattle.bits.specs.Bits.{most_in_line, unpack}
use Rattle.rows.specs.Order.{Row}
use Rattle.message.specs.Layout.{row_bits, block_bits}
use Rattle.message.proofs.Legal.{legal_bounds, sizes}
use Rattle.anchor.specs.Anchor.{OwnCounts, LightInHand}
use Rattle.anchor.proofs.Totals.{total-none, total-next}
use Rattle.floor.specs.Floor.{BlockCompared}
use Rattle.floor.proofs.Floor.{own-loses, next-at-least}
use Rattle.floor.proofs.after_row.Goals as goal
use Rattle.floor.proofs.after_row.Goals.{After-from-a, After-compare_block}

-- the count of a turn
count : (c : After-from-a) →
    (c.from-a.result ≡ get_or c.args.counts.now c.loop-b.b 0) × (c.loop-b.b < c.args.i) × (c.loop-b.b < length c.args.counts.now)
count c =
    let a = c.args in
    let all = length-take-le a.i a.counts.now (omega (arith, c.requires.1.1.0.1, c.requires.1.1.1.0)) in
    let b : c.loop-b.b < a.i = omega (arith, all) in
    (c.from-a.ensures ∙ get_or-take a.i a.counts.now c.loop-b.b 0 b, b, omega (arith, c.requires.1.1.0.1, c.requires.1.1.1.0))

pub loop-b-init : goal.loop-b-init
loop-b-init c =
    let a = c.args in
    let none = zero-mul (block_bits a.l) in
    record { lost = sym (total-none a.counts.now); few = omega arith; least = λ x r own light. rw none (inr refl) }

-- what the comparison of block b says of a row under the counts
compared : (c : After-compare_block) →
    let a = c.args in
    (x : List ℕ) → Row (row_bits a.l) x → OwnCounts a.l a.y.now a.counts.now a.i x
    → LightInHand a.l a.counts.now a.i a.row.now x
    → BlockCompared a.l c.loop-b.b (unpack a.last.now) x c.compare_block.result
compared c x r own light =
    let a = c.args in
    let n = count (goal.at.After-compare_block c).After-from-a in
    let loses = own-loses a.l a.y.now a.counts.now a.i x own c.loop-b.b n.1 n.2 in
    c.compare_block.ensures x r (rw (c.loop-b.invariant.lost, n.0) loses)
    (λ h j k. light c.loop-b.b j n.1 k (omega (arith, n.0)))

pub returns-in-Greater : goal.returns-in-Greater
returns-in-Greater c =
    λ e x r own light.
    (compared (goal.at.returns-in-Greater c).After-compare_block x r own light).after c.in-Greater.is (c.loop-b.invariant.least x r own light)

pub overflow_add-d : goal.overflow_add-d
overflow_add-d c =
    let few : c.args.i ≤ most_in_line =
    omega (arith, (sizes c.args.l (legal_bounds c.args.l c.requires.0)).l1_high, c.requires.1.1.1.0) in
    let n = count (goal.at.overflow_add-d c).After-from-a in
    omega (arith, c.loop-b.invariant.few, n.0, n.1, (c.type_inv.counts c.loop-b.b).fits)

pub loop-b-preserved : goal.loop-b-preserved
loop-b-preserved c =
    let a = c.args in
    let at = goal.at.loop-b-preserved c in
    let n = count at.After-from-a in
    let own = c.loop-b.invariant in
    record {
      lost = omega (arith, own.lost, n.0, total-next a.counts.now c.loop-b.b n.2);
      few = omega (arith, own.few, n.0, (c.type_inv.counts c.loop-b.b).fits);
      least = λ x r own light.
          next-at-least c.loop-b.b (block_bits a.l) (unpack a.last.now) x
          ((compared at.After-compare_block x r own light).same c.in-Equal.is (c.loop-b.invariant.least x r own light));
    }
