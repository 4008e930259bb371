-- Rests on the laws of steps (found) and of a cell that is found (cells).
use Rattle.std.proofs.Common.{◌≡◌, ℕ, ◌*◌, ◌<◌, ◌≤◌, length, get_or, set, take, Option, Some, None, MatchOption, IsSome, sym, subst, ◌∙◌, arith, rules, length-set, length-take, get_or-take}
use Rattle.found.proofs.Found.{grown_holding, grown_nothing, grown_then, grown_weaken}
use Rattle.cells.specs.Cells.{OpenAt, SameBut}
use Rattle.cells.proofs.Same.{same_refl, same_trans, cell_set, same-found, under_same}
use Rattle.cells.proofs.State.{placed-found}
use Rattle.recover.proofs.Weights.{weight-some}
use Rattle.fill.proofs.Rows.{closed_in_hand, with_found, tried_next, lost-less}
use Rattle.fill.proofs.+try_content_try_contents_try_each.Goals as goal

-- ---- one content
pub try_content-try_contents-requires : goal.try_content-try_contents-requires
try_content-try_contents-requires t c =
    let a = c.args in
    let p = c.requires in
    let long : a.l.l1 * a.l.l2 ≤ length (set a.row.now c.chunk_of-at.result a.v) =
    omega (arith, length-set a.row.now c.chunk_of-at.result a.v, p.0.1)
    in (
      omega (arith, c.decreases, lost-less a.cells a.z p.1.1.1),
      ((p.0.0, long), (p.1.0, placed-found a.l (length a.y.now) a.cells a.z p.1.1.0)),
    )

pub try_content-returns : goal.try_content-returns
try_content-returns t c =
    let a = c.args in
    let o = c.requires.1.1.1 in
    let e = c.chunk_of-at.ensures in
    let put = subst (λ (at : ℕ). SameBut a.l (OpenAt a.cells) a.row.now (set a.row.now at a.v))
    (sym e.0) (cell_set a.l a.cells a.z a.v o (c.requires.1.1.0 a.z o).1.0) in (
      grown_weaken
          (λ x s w. with_found a.l a.y.now a.cells a.row.now a.z a.v c.chunk_of-at.result e.0
          (omega (arith, e.1, c.requires.0.1)) w)
          c.try_contents.ensures.0,
      same_trans put (same-found a.cells a.z c.try_contents.ensures.1),
    )

-- ---- the open cells
pub try_contents-returns-then-open-eq0 : goal.try_contents-returns-then-open-eq0
try_contents-returns-then-open-eq0 t c =
    let none = sym c.open_cells-open.ensures.0 ∙ c.if-open-eq0.true in
    (grown_weaken (λ x s u. closed_in_hand c.requires.0.0.is_legal none u) c.add_row.ensures, same_refl)

-- some cells are open, so one of them is chosen
chosen : (P : Type 0) (Q : ℕ → Type 0) (o : Option ℕ) → MatchOption o P Q → (P → ⊥) → IsSome o
chosen P Q None h some = absurd (some h)
chosen P Q (Some z) h some = search rules

pub try_contents-unwrap-z-requires : goal.try_contents-unwrap-z-requires
try_contents-unwrap-z-requires t c =
    let lost = c.args.cells.lost in
    let size : length lost ≡ 12 = search rules in
    let q = weight-some lost (omega (arith, c.open_cells-open.ensures.0, c.if-open-eq0.false)) in
    chosen ((k : ℕ) → k < 12 → get_or lost k 0 ≡ 0) (λ z. (z < 12) × (0 < get_or lost z 0)) _ c.choose.ensures
    (λ none. omega (arith, none q.0 (omega (arith, q.1.0)), q.1.1))

-- ---- the contents of one cell
pub try_each-loop-v-init : goal.try_each-loop-v-init
try_each-loop-v-init t c = record {
  known = grown_nothing c.requires.1.0 (λ x r b. omega (arith, b.1.1.1.0));
  same = same_refl;
}

pub try_each-try_content-held-requires : goal.try_each-try_content-held-requires
try_each-try_content-held-requires t c =
    let p = c.requires in (
      omega (arith, c.decreases),
      ((p.0.0, omega (arith, c.loop-v.auto.row, p.0.1)), (grown_holding p.1.0 c.loop-v.invariant.known, p.1.1)),
    )

pub try_each-loop-v-preserved : goal.try_each-loop-v-preserved
try_each-loop-v-preserved t c =
    let a = c.args in
    let i = c.loop-v.invariant in
    let tried = take c.list_contents-n.result c.list_contents-n.new.out in
    let one = grown_weaken (λ x s w. (under_same i.same w.0, w.1)) c.try_content-held.ensures.0 in
    record {
      known = grown_weaken (λ x s b. tried_next a.l a.y.now a.cells a.row.now a.z tried c.loop-v.v-index b)
          (grown_then c.requires.1.0 i.known one);
      same = same_trans i.same c.try_content-held.ensures.1;
    }

pub try_each-returns : goal.try_each-returns
try_each-returns t c =
    let n = c.list_contents-n.result in
    let out = c.list_contents-n.new.out in
    let size : length out ≡ 256 = search rules in
    let all = length-take n out in (
      grown_weaken
          (λ x r u.
          let i = c.list_contents-n.ensures.1 x r u in
          (u, (i.0, (i.1.0, (omega (arith, all, i.1.1.0), get_or-take n out i.0 0 i.1.1.0 ∙ i.1.1.1)))))
          c.loop-v.invariant.known,
      c.loop-v.invariant.same,
    )
