-- `steps::sweep` meets its contract. Rests on Sweeping.antt. Assumes nothing.
use Rattle.std.proofs.Common.{◌≡◌, ℕ, List, suc, ◌+◌, ◌-◌, ◌*◌, ◌<◌, ◌≤◌, sym, subst, length, get_or, arith}
use mathlib.Core.Logic.{⊎_elim}
use Rattle.bits.proofs.Laws.{lt_or_ge}
use Rattle.states.specs.States.{stride, each}
use Rattle.states.specs.declared.Shape.{Shape}
use Rattle.choices.specs.Choices.{Small}
use Rattle.steps.specs.Steps.{Raises, Picks, Ground, Stands, With, Gains}
use Rattle.steps.specs.declared.Stand.{Stand}
use Rattle.steps.proofs.Sweeping.{raises_same, raises_then, ground_stays, stands_low, stands_inside, stands_with}
use Rattle.steps.proofs.Sweeping.{gains-none, gains-more, gains-end, gains_pick}
use Rattle.steps.proofs.+sweep.Goals as goal
use Rattle.steps.proofs.+sweep.Goals.{Joined-not-none_marked}
use Rattle.steps.proofs.+sweep.Goals.{then-not-none_marked+then-b-eq0, then-not-none_marked+else-b-eq0, else-not-none_marked}

-- choice t of the last of the first s blocks: that block is one of the blocks, what one loss of it counts in the number of
-- a state, its numbers, and where the sweep stands with it
record Turn (choices : List ℕ) (shape : Shape) (s t : ℕ) (stand : Stand) : Type 0 where
  inside : s - 1 < shape.n
  one : get_or shape.stride (s - 1) 0 ≡ stride (each shape.size) (s - 1)
  listed : 4 * t + 4 ≤ length choices
  small : Small choices (each shape.size (s - 1) * stride (each shape.size) (s - 1)) t
  stands : (wider : Stand) → With choices t stand wider → Stands shape (s - 1) wider

turn : {choices from : List ℕ} {shape : Shape} {modulus need : ℕ} {marks : List ℕ} {at : ℕ} {some fresh : List ℕ}
    → Ground choices from shape modulus need marks at some fresh → {s : ℕ} {stand : Stand} → Stands shape s stand → 0 < s
    → (t : ℕ) → get_or from (s - 1) 0 ≤ t → t < get_or from s 0 → Turn choices shape s t stand
turn {from = from} {shape} g {s} {stand} k left t low high =
    let up : s ≡ suc (s - 1) = omega arith in
    let next : s ≡ s - 1 + 1 = omega arith in
    let inside : s - 1 < shape.n = omega (arith, k.inside) in
    let below : t < get_or from (s - 1 + 1) 0 = subst (λ (v : ℕ). t < get_or from v 0) next high in
    let own = g.listed (s - 1) t inside low below in
    record {
      inside = inside;
      one = g.shaped.counts (s - 1) inside;
      listed = own.0;
      small = own.1;
      stands = λ wider w.
          stands_with g (s - 1) t low below (subst (λ (v : ℕ). Stands shape v stand) up k) w;
    }

pub raise_one-requires : goal.raise_one-requires
raise_one-requires t c =
    let g = c.requires.0 in
    let k = c.requires.1 in
    let q = stands_inside g k in (
      (g.below, g.high),
      ((stands_low g k).least-low, (omega (arith, q, g.counted.marked), omega (arith, q, g.long-fresh))),
    )

pub returns-then-s-eq0 : goal.returns-then-s-eq0
returns-then-s-eq0 t c =
    let e = c.raise_one.ensures in
    (e.0, λ pick p. gains-end pick (omega (arith, c.if-s-eq0.true)) e.1)

pub with_choice-next-requires : goal.with_choice-next-requires
with_choice-next-requires t c =
    let k = turn c.requires.0 c.requires.1 (omega arith) c.loop-t.t (omega arith) (omega arith) in
    (k.listed, (stands_low c.requires.0 c.requires.1, k.small.other-small))

pub overflow_add-q : goal.overflow_add-q
overflow_add-q t c =
    let k = turn c.requires.0 c.requires.1 (omega arith) c.loop-t.t (omega arith) (omega arith) in
    omega (arith, (k.stands c.with_choice-next.result c.with_choice-next.ensures).room, k.one, c.requires.0.states)

pub none_marked-requires : goal.none_marked-requires
none_marked-requires t c =
    let g = c.requires.0 in
    let k = turn g c.requires.1 (omega arith) c.loop-t.t (omega arith) (omega arith) in
    let room = (k.stands c.with_choice-next.result c.with_choice-next.ensures).room in
    (omega (arith, room, g.counted.long-some), omega (arith, room, k.one, g.counted.long-some))

pub raise_one-requires-then-b-eq0 : goal.raise_one-requires-then-b-eq0
raise_one-requires-then-b-eq0 t c =
    let g = c.requires.0 in
    let k = turn g c.requires.1 (omega arith) c.loop-t.t (omega arith) (omega arith) in
    let stands = k.stands c.with_choice-next.result c.with_choice-next.ensures in
    let q = stands_inside g stands in (
      (g.below, g.high),
      (
        (stands_low g stands).least-low,
        (omega (arith, q, g.counted.marked), omega (arith, q, g.long-fresh, c.loop-t.invariant.raises.long)),
      ),
    )

pub sweep-requires : goal.sweep-requires
sweep-requires t c =
    let k = turn c.requires.0 c.requires.1 (omega arith) c.loop-t.t (omega arith) (omega arith) in (
      omega arith,
      (
        ground_stays c.requires.0 c.loop-t.fresh c.loop-t.invariant.raises.long,
        k.stands c.with_choice-next.result c.with_choice-next.ensures,
      ),
    )

-- what a turn does for the picks of its choice: nothing is to be done where no state is marked, with no block left the mark
-- of the state itself is raised, and otherwise the sweep goes on
turned : (t : ℕ) (c : Joined-not-none_marked t) → let a = c.args in
    Raises c.loop-t.fresh c.if-not-none_marked.fresh
    × ((pick : ℕ → ℕ) → Picks a.from.now pick (a.s - 1)
    → Gains a.choices.now a.modulus a.need a.there a.marks.now a.at (a.s - 1) c.with_choice-next.result
    c.if-not-none_marked.fresh pick)
turned t c =
    let l = c.loop-t in
    let g = ground_stays c.requires.0 l.fresh l.invariant.raises.long in
    elim c.if-not-none_marked.branch [
      | then-not-none_marked+then-b-eq0 u ↦
          rw u.fresh-is (
            u.raise_one-then-b-eq0.ensures.0,
            λ pick p. gains-end pick (omega (arith, u.if-b-eq0.true)) u.raise_one-then-b-eq0.ensures.1,
          )
      | then-not-none_marked+else-b-eq0 u ↦ rw u.fresh-is (u.sweep.ensures.0, λ pick p. u.sweep.ensures.1 pick p)
      | else-not-none_marked u ↦
          let k = turn c.requires.0 c.requires.1 (omega arith) l.t (omega arith) (omega arith) in
          let same = rw k.one at (c.none_marked.ensures u.if-not-none_marked.false) in
          let stands = k.stands c.with_choice-next.result c.with_choice-next.ensures in
          rw u.fresh-is (
            raises_same _,
            λ pick p. gains-none g c.args.there (c.args.s - 1) c.with_choice-next.result pick stands same p,
          )
    ]

pub loop-t-preserved : goal.loop-t-preserved
loop-t-preserved t c =
    let a = c.args in
    let l = c.loop-t in
    let x = turned t (goal.at.loop-t-preserved t c).Joined-not-none_marked in
    let up : a.s ≡ suc (a.s - 1) = omega arith in
    record {
      raises = raises_then l.invariant.raises x.0;
      gains = λ pick p less.
          ⊎_elim (λ (u : pick (a.s - 1) < l.t). gains-more x.0 (l.invariant.gains pick p u))
          (λ (u : l.t ≤ pick (a.s - 1)).
          let is : pick (a.s - 1) ≡ l.t = omega (arith, less, u) in
          let few : Picks a.from.now pick (a.s - 1) = λ d h. p d (omega (arith, h)) in
          subst (λ (v : ℕ). Gains a.choices.now a.modulus a.need a.there a.marks.now a.at v a.stand
          c.if-not-none_marked.fresh pick) (sym up)
          (gains_pick (a.s - 1) l.t pick is c.with_choice-next.ensures (x.1 pick few)))
          (lt_or_ge (pick (a.s - 1)) l.t);
    }

pub returns : goal.returns
returns t c =
    let i = c.loop-t.invariant in
    let a = c.args in
    let same : a.s - 1 + 1 ≡ a.s = omega arith in (
      i.raises,
      λ pick p.
          let own = (p (a.s - 1) (omega arith)).1 in
          let less = subst (λ (v : ℕ). pick (a.s - 1) < get_or a.from.now v 0) same own in
          i.gains pick p (omega (arith, less, c.loop-t-test.false)),
    )
