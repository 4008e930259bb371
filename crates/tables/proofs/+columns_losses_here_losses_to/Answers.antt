-- Rests on the laws of Going.antt and Coming.antt.
use Rattle.std.proofs.Common.{◌≡◌, ℕ, ◌+◌, ◌-◌, ◌<◌, ◌≤◌, true, List, get_or, inr, refl, sym, subst, ◌∙◌, arith}
use Rattle.std.proofs.lemmas.Bool.{false≢true}
use Rattle.bits.specs.Bits.{most_in_line}
use Rattle.message.specs.Layout.{legal}
use Rattle.message.specs.declared.Layout.{Layout}
use Rattle.message.proofs.Legal.{legal_bounds, sizes}
use Rattle.found.proofs.Found.{grown_holding, grown_none, grown_nothing, grown_weaken, grown_turn}
use Rattle.states.specs.States.{each, entry_at, state_of}
use Rattle.cells.proofs.Same.{same_refl, same_trans, same_wider}
use Rattle.tables.specs.Tables.{own_left, IsMark}
use Rattle.tables.proofs.Making.{under_same, no_single}
use Rattle.tables.proofs.Coming.{fits, few_left, near-stays, left_state, comes-marked, comes-near, own_left_is}
use Rattle.tables.proofs.Coming.{leaves, sums_meet, crossed, within-next, under_next}
use Rattle.tables.proofs.Coming.{shape_next, state-next, looked_next}
use Rattle.tables.proofs.Going.{going_same, going_near, going_end, going_uncrossed, going_unread, going_read, going_next}
use Rattle.tables.proofs.+columns_losses_here_losses_to.Goals as goal
use Rattle.tables.proofs.+columns_losses_here_losses_to.Goals.{losses_here-then-mark-ne0, losses_here-else-mark-ne0}

-- a legal layout has few columns
few-columns : (l : Layout) → legal l ≡ true → l.l2 ≤ most_in_line
few-columns l e = (sizes l (legal_bounds l e)).l2_high

-- ---- column by column
pub columns-mark_at-mark-requires : goal.columns-mark_at-mark-requires
columns-mark_at-mark-requires t c = omega (arith, few-columns c.args.l c.requires.0.is_legal)

pub columns-hopeful-requires : goal.columns-hopeful-requires
columns-hopeful-requires t c =
    omega (arith, few-columns c.args.l c.requires.0.is_legal, c.loop-c.invariant.looked.small)

pub columns-returns-then-not-hopeful : goal.columns-returns-then-not-hopeful
columns-returns-then-not-hopeful t c =
    let a = c.args in
    let g = c.loop-c.invariant in (
      going_near g c.mark_at-mark.result
          (subst (λ (v : ℕ). IsMark a.shape a.marks.now c.loop-c.c v c.mark_at-mark.result)
          c.number_of-q.ensures c.mark_at-mark.ensures)
          (λ n k. c.hopeful.ensures n c.if-not-hopeful.true k),
      g.same,
    )

pub columns-crossing-whole-requires : goal.columns-crossing-whole-requires
columns-crossing-whole-requires t c =
    let g = c.loop-c.invariant in
    let k = g.looked in
    (fits c.requires.0 g.sound, (k.tables, (c.loop-c-test.true, (k.sums, k.others))))

pub columns-returns-then-whole-eq0 : goal.columns-returns-then-whole-eq0
columns-returns-then-whole-eq0 t c =
    let g = c.loop-c.invariant in
    let f = c.losses_here-k.ensures in
    (going_uncrossed g c.loop-c-test.true f.0 c.crossing-whole.ensures.0 c.if-whole-eq0.true, going_same g f.1)

pub columns-returns-in_default : goal.columns-returns-in_default
columns-returns-in_default t c =
    let g = c.loop-c.invariant in
    let f = c.losses_here-k.ensures in
    let crossing = c.crossing-whole.ensures.0 in (
      going_unread g c.loop-c-test.true f.0 crossing f.1 c.in_default.ensures refl,
      going_read g c.loop-c-test.true f.0 crossing f.1 c.in_default.ensures,
    )

pub columns-after-fresh-requires : goal.columns-after-fresh-requires
columns-after-fresh-requires t c =
    let g = c.loop-c.invariant in
    (fits c.requires.0 g.sound, (c.loop-c-test.true, g.looked.sums))

pub columns-overflow_add-apart : goal.columns-overflow_add-apart
columns-overflow_add-apart t c =
    omega (
      arith,
      few-columns c.args.l c.requires.0.is_legal,
      c.loop-c.invariant.looked.small,
      c.from.ensures,
      c.crossing-whole.ensures.1,
    )

pub columns-loop-c-preserved : goal.columns-loop-c-preserved
columns-loop-c-preserved t c =
    let g = c.loop-c.invariant in
    let crossing = c.crossing-whole.ensures in
    let here = c.losses_here-k.ensures in
    going_next g c.loop-c-test.true here.0 crossing.0 here.1 c.in-Some.ensures refl
    (c.step.auto.row ∙ c.losses_here-k.auto.row ∙ g.wide) c.after-fresh.result c.after-fresh.ensures
    (c.from.result - 1) (omega (arith, c.from.ensures)) (omega (arith, c.from.ensures, crossing.1))

pub columns-mend_table-requires : goal.columns-mend_table-requires
columns-mend_table-requires t c =
    let g = c.loop-c.invariant in
    (c.requires.0, (g.holding, ((g.sound.placed, no_single g.sound), omega (arith, c.requires.1.1.0.1, g.wide))))

pub columns-returns : goal.columns-returns
columns-returns t c =
    let g = c.loop-c.invariant in
    let m = c.mend_table.ensures in
    (going_end g c.loop-c-test.false m.0, going_same g (same_wider (λ i j p q o. inr o) m.1))

-- ---- the lower states after a column
pub losses_here-exits-can-requires : goal.losses_here-exits-can-requires
losses_here-exits-can-requires t c =
    let p = c.requires in
    let sound = p.1.1.0.0 in
    (fits p.0 sound, (p.1.1.1.0, λ s h. few_left sound s))

pub losses_here-loop-to-init : goal.losses_here-loop-to-init
losses_here-loop-to-init t c = record {
  known = grown_nothing c.requires.1.0 (λ x sent u. omega (arith, u.1));
  same = same_refl;
}

pub losses_here-mark_at-mark-requires : goal.losses_here-mark_at-mark-requires
losses_here-mark_at-mark-requires t c = omega (arith, few-columns c.args.l c.requires.0.is_legal)

pub losses_here-losses_to-k-requires : goal.losses_here-losses_to-k-requires
losses_here-losses_to-k-requires t c =
    let p = c.requires in
    let v = c.loop-to.invariant in
    let a = c.args in
    let below : c.loop-to.to < state_of a.shape (each a.t.left) =
    omega (arith, c.loop-to-test.true, c.number_of-q.ensures)
    in
    let holding = grown_holding p.1.0 v.known in
    let near = near-stays a.l a.numbers.now a.y.now a.z.now a.room p.1.0 v.known p.1.1.1.1.1.1 in
    let of = p.1.1.1.1.0 in
    let looked = p.1.1.1.1.1.0 in (
      omega (arith, c.decreases),
      (
        (
          p.0,
          (
            holding,
            ((p.1.1.0.0, omega (arith, p.1.1.0.1, c.loop-to.auto.row)), (p.1.1.1.0, (of, (looked, near)))),
          ),
        ),
        (
          (below, c.mark_at-mark.ensures),
          λ x sent u. leaves p.1.1.1.0 u (λ r h. refl) c.exits-can.result c.exits-can.ensures,
        ),
      ),
    )

pub losses_here-loop-to-preserved : goal.losses_here-loop-to-preserved
losses_here-loop-to-preserved t c =
    let a = c.args in
    let p = c.requires in
    let f : List ℕ → ℕ = λ (x : List ℕ). state_of a.shape (own_left a.l a.y.now a.heavy x (a.j + 1)) in
    let v = c.loop-to.invariant in
    elim c.if-mark-ne0.branch [
      | losses_here-then-mark-ne0 w ↦ rw (w.row-is, w.list-is, w.k-is) record {
        known = grown_turn p.1.0 f c.loop-to.to (λ x sent u e. ((under_same v.same u.0, u.1), e)) v.known
            w.losses_to-k.ensures.0;
        same = same_trans v.same w.losses_to-k.ensures.1;
      }
      | losses_here-else-mark-ne0 w ↦ rw (w.row-is, w.list-is, w.k-is) record {
        known = grown_turn p.1.0 f c.loop-to.to
            (λ x sent u e. comes-marked u.1 (a.j + 1) c.loop-to.to c.mark_at-mark.result (omega (arith, p.1.1.1.0))
            c.mark_at-mark.ensures w.if-mark-ne0.false e)
            v.known (grown_nothing (grown_holding p.1.0 v.known) {P = λ x. ⊥} (λ x sent n. n));
        same = v.same;
      }
    ]

pub losses_here-returns : goal.losses_here-returns
losses_here-returns t c =
    let n = c.number_of-q.ensures in
    let v = c.loop-to.invariant in
    (grown_weaken (λ x sent u. (u.0, omega (arith, u.1, n, c.loop-to-test.false))) v.known, v.same)

-- ---- one lower state
pub losses_to-returns-then-not-all_can : goal.losses_to-returns-then-not-all_can
losses_to-returns-then-not-all_can t c =
    let a = c.args in
    let own = c.losses_left-next in
    let in-row : c.args.j + 1 ≤ c.args.l.l2 = omega (arith, c.requires.0.1.1.1.0) in (
      grown_nothing c.requires.0.1.0
          (λ x sent u.
          false≢true
          (sym c.if-not-all_can.true
          ∙ c.all_can.ensures
          (λ r h. subst (λ (v : ℕ). 0 < get_or a.can.now (entry_at r v) 0) (own_left_is u.0.1 c.requires.0.1.1.1.1.0 (c.args.j + 1) c.args.to own.result in-row own.ensures u.1 r h)
          (c.requires.1.1 x sent u.0 r h)))),
      same_refl,
    )

pub losses_to-crossing-here-requires : goal.losses_to-crossing-here-requires
losses_to-crossing-here-requires t c =
    let p = c.requires.0 in
    let k = p.1.1.1.1.1.0 in
    (fits p.0 p.1.1.0.0, (k.tables, (p.1.1.1.0, (k.sums, k.others))))

pub losses_to-returns-then-here-eq0 : goal.losses_to-returns-then-here-eq0
losses_to-returns-then-here-eq0 t c =
    let p = c.requires.0 in
    let own = c.losses_left-next in
    let in-row : c.args.j + 1 ≤ c.args.l.l2 = omega (arith, c.requires.0.1.1.1.0) in (
      grown_nothing p.1.0
          (λ x sent u.
          omega (arith, crossed p.1.1.1.0 u.0 (own_left_is u.0.1 c.requires.0.1.1.1.1.0 (c.args.j + 1) c.args.to own.result in-row own.ensures u.1) c.crossing-here.ensures.0, c.if-here-eq0.true)),
      same_refl,
    )

pub losses_to-overflow_add-apart : goal.losses_to-overflow_add-apart
losses_to-overflow_add-apart t c =
    let p = c.requires.0 in
    omega (
      arith,
      few-columns c.args.l p.0.is_legal,
      p.1.1.1.1.1.0.small,
      c.from.ensures,
      c.crossing-here.ensures.1,
    )

pub losses_to-hopeful-requires : goal.losses_to-hopeful-requires
losses_to-hopeful-requires t c =
    let p = c.requires.0 in
    omega (
      arith,
      few-columns c.args.l p.0.is_legal,
      p.1.1.1.1.1.0.small,
      c.from.ensures,
      c.crossing-here.ensures.1,
    )

pub losses_to-returns-then-not-hopeful : goal.losses_to-returns-then-not-hopeful
losses_to-returns-then-not-hopeful t c =
    let a = c.args in
    let p = c.requires.0 in
    let own = c.losses_left-next in
    let in-row : c.args.j + 1 ≤ c.args.l.l2 = omega (arith, c.requires.0.1.1.1.0) in
    let add : c.crossing-here.result ≤ c.from.result - 1 + 1 = omega (arith, c.from.ensures, c.if-here-eq0.false) in (
      grown_none p.1.0
          (λ x sent u.
          let left = own_left_is u.0.1 c.requires.0.1.1.1.1.0 (c.args.j + 1) c.args.to own.result in-row own.ensures u.1 in
          let within = within-next p.1.1.1.0 u.0 left c.crossing-here.ensures.0 (c.from.result - 1) add in
          p.1.1.1.1.1.1 x sent
          (comes-near u.0.1 (a.j + 1) _ a.mark a.room (omega (arith, p.1.1.1.0)) within
          (subst (λ (v : ℕ). IsMark a.shape a.marks.now (a.j + 1) v a.mark) (sym u.1) c.requires.1.0.1)
          (λ m k. c.hopeful.ensures m c.if-not-hopeful.true k))),
      same_refl,
    )

pub losses_to-after-fresh-requires : goal.losses_to-after-fresh-requires
losses_to-after-fresh-requires t c =
    let p = c.requires.0 in
    (fits p.0 p.1.1.0.0, (p.1.1.1.0, p.1.1.1.1.1.0.sums))

pub losses_to-returns-then-not-all_meet : goal.losses_to-returns-then-not-all_meet
losses_to-returns-then-not-all_meet t c =
    let p = c.requires.0 in
    let own = c.losses_left-next in
    let in-row : c.args.j + 1 ≤ c.args.l.l2 = omega (arith, c.requires.0.1.1.1.0) in (
      grown_nothing p.1.0
          (λ x sent u.
          false≢true
          (sym c.if-not-all_meet.true
          ∙ sums_meet p.1.1.1.0 u.0 (own_left_is u.0.1 c.requires.0.1.1.1.1.0 (c.args.j + 1) c.args.to own.result in-row own.ensures u.1) c.after-fresh.result c.after-fresh.ensures c.all_meet.ensures)),
      same_refl,
    )

pub losses_to-returns-in_default : goal.losses_to-returns-in_default
losses_to-returns-in_default t c =
    let p = c.requires.0 in
    let own = c.losses_left-next in
    let in-row : c.args.j + 1 ≤ c.args.l.l2 = omega (arith, c.requires.0.1.1.1.0) in (
      grown_nothing p.1.0
          (λ x sent u. false≢true (c.in_default.ensures.under x sent.0 u.0.0 (own_left_is u.0.1 c.requires.0.1.1.1.1.0 (c.args.j + 1) c.args.to own.result in-row own.ensures u.1)).0),
      c.in_default.ensures.same,
    )

pub losses_to-returns-then-not-all_end : goal.losses_to-returns-then-not-all_end
losses_to-returns-then-not-all_end t c =
    let p = c.requires.0 in
    let own = c.losses_left-next in
    let in-row : c.args.j + 1 ≤ c.args.l.l2 = omega (arith, c.requires.0.1.1.1.0) in (
      grown_nothing p.1.0
          (λ x sent u.
          let under = (c.in-Some.ensures.under x sent.0 u.0.0 (own_left_is u.0.1 c.requires.0.1.1.1.1.0 (c.args.j + 1) c.args.to own.result in-row own.ensures u.1)).1 in
          false≢true (sym c.if-not-all_end.true ∙ c.all_end.ensures x sent under)),
      c.in-Some.ensures.same,
    )

pub losses_to-columns-requires : goal.losses_to-columns-requires
losses_to-columns-requires t c =
    let a = c.args in
    let p = c.requires.0 in
    let of = p.1.1.1.1.0 in
    let stepped = c.in-Some.ensures in
    let lower = left_state c.losses_left-next.result a.to of c.requires.1.0.0 c.losses_left-next.ensures in
    let few : c.from.result - 1 ≤ 6 = omega (arith, c.from.ensures, c.crossing-here.ensures.1) in
    let shaped = shape_next stepped refl of lower.1 in
    let looked = looked_next few p.1.1.1.1.1.0 in (
      omega (arith, c.decreases, state-next stepped refl of, lower.0, c.requires.1.0.0),
      (
        p.0,
        (
          p.1.0,
          (
            (stepped.sound, omega (arith, p.1.1.0.1, c.step.auto.row)),
            (omega (arith, p.1.1.1.0), (shaped, (looked, p.1.1.1.1.1.1))),
          ),
        ),
      ),
    )

pub losses_to-returns : goal.losses_to-returns
losses_to-returns t c =
    let p = c.requires.0 in
    let own = c.losses_left-next in
    let in-row : c.args.j + 1 ≤ c.args.l.l2 = omega (arith, c.requires.0.1.1.1.0) in
    let stepped = c.in-Some.ensures in
    let add : c.crossing-here.result ≤ c.from.result - 1 + 1 = omega (arith, c.from.ensures, c.if-here-eq0.false) in (
      grown_weaken
          (λ x sent u.
          (under_next p.1.1.1.0 u.0 (own_left_is u.0.1 c.requires.0.1.1.1.1.0 (c.args.j + 1) c.args.to own.result in-row own.ensures u.1) c.crossing-here.ensures.0 (c.from.result - 1) add
          c.after-fresh.result c.after-fresh.ensures sent.0 stepped).1)
          c.columns.ensures.0,
      same_trans stepped.same (same_wider (λ i b g h. stepped.fewer i b) c.columns.ensures.1),
    )
