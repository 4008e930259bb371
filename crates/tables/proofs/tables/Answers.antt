-- Every row under the table with which the columns begin comes through marked states.
use Rattle.std.proofs.Common.{ℕ, ◌+◌, ◌*◌, ◌<◌, ◌≤◌, List, length, get_or, take, ◌⊎◌, inl, inr, ⊎_elim, sym, ap, subst, ◌∙◌, arith}
use Rattle.std.proofs.lemmas.Bool.{false≢true}
use Rattle.std.proofs.lemmas.List.{take_all}
use Rattle.bits.proofs.Laws.{lt_or_ge}
use Rattle.rows.specs.Held.{Known}
use Rattle.rows.specs.Slice.{rows_of_slice}
use Rattle.message.specs.Layout.{row_bits}
use Rattle.message.proofs.Legal.{legal_bounds, sizes}
use Rattle.lines.specs.Lines.{values}
use Rattle.found.specs.Found.{Sent}
use Rattle.found.proofs.Found.{grown_weaken, grown_none, grown_nothing, grown_then}
use Rattle.states.specs.States.{each}
use Rattle.marks.specs.Marks.{Path, Through, apart_from}
use Rattle.cells.specs.Cells.{SameBut}
use Rattle.cells.proofs.Same.{same_trans, same_wider}
use Rattle.tables.specs.Tables.{Undecided, Free, Under, own_left, ShapeOf, Looked, Comes, apart}
use Rattle.tables.proofs.Coming.{fits, few_left}
use Rattle.tables.proofs.Ending.{block_sum}
use Rattle.tables.proofs.Making.{under_same}
use Rattle.tables.proofs.Own.{cleared_same, in_hand, own-path}
use Rattle.tables.proofs.tables.Goals as goal
use Rattle.tables.proofs.tables.Goals.{After-light_sums, After-saturating_sub-rest, After-fill, then-p-2, else-p-2}

-- a row under the table with which the columns begin has a path through the loss states
path : (c : After-light_sums) → let a = c.args in
    (x : List ℕ) → Sent a.l a.numbers.now a.y.now x → Under a.l a.y.now a.heavy 0 0 a.t a.row.now x
    → Path a.l a.y.now a.numbers.now a.heavy a.row.now (each a.t.left) (values a.l x) (own_left a.l a.y.now a.heavy x)
path c x sent u = let p = c.requires in own-path p.0.0 sent p.1.0.0 u p.1.0.1

-- of the row in hand, only chunks of heavy blocks are changed where the sums are known
cleared : (c : After-light_sums) → let a = c.args in
    SameBut a.l (Undecided a.heavy 0 0) a.row.now c.light_sums.new.row
cleared c = let a = c.args in cleared_same a.l a.heavy _ _ c.light_sums.ensures.1

-- so the rows under the first table are the same
cleared-under : (c : After-light_sums) → let a = c.args in (x : List ℕ)
    → Under a.l a.y.now a.heavy 0 0 a.t a.row.now x → Under a.l a.y.now a.heavy 0 0 a.t c.light_sums.new.row x
cleared-under c x u = under_same (same_wider (λ i c p q. inl) (cleared c)) u

-- and what the columns change of it belongs to heavy blocks, since there are no cells at first
changed : (c : After-light_sums) {after : List ℕ} → let a = c.args in
    SameBut a.l (Free a.heavy 0 0 a.t.cells) c.light_sums.new.row after
    → SameBut a.l (Undecided a.heavy 0 0) a.row.now after
changed c s =
    let p = c.requires.1.0 in
    same_trans (cleared c)
    (same_wider
    (λ i j g h. ⊎_elim (λ w. w) (λ o. absurd (omega (arith, o.1.0.1, p.0.fresh o.0 (omega (arith, p.1))))))
    s)

pub light_sums-requires : goal.light_sums-requires
light_sums-requires c =
    let z = sizes c.args.l (legal_bounds c.args.l c.requires.0.0.is_legal) in
    (fits c.requires.0.0 c.requires.1.0.0, (c.requires.1.1.1.0.0, z.l2_high))

pub enough-requires : goal.enough-requires
enough-requires c =
    let z = sizes c.args.l (legal_bounds c.args.l c.requires.0.0.is_legal) in
    (fits c.requires.0.0 c.requires.1.0.0, (c.requires.1.1.0, omega (arith, z.l2_high, c.light_sums.auto.known)))

pub returns-then-not-enough : goal.returns-then-not-enough
returns-then-not-enough c =
    let here = (goal.at.returns-then-not-enough c).After-light_sums in (
      grown_nothing c.requires.0.1
          (λ x sent u. false≢true (sym c.if-not-enough.true ∙ c.enough.ensures _ _ _ c.light_sums.ensures.0 (path here x sent u))),
      cleared here,
    )

pub all_near-requires : goal.all_near-requires
all_near-requires c =
    let z = sizes c.args.l (legal_bounds c.args.l c.requires.0.0.is_legal) in (
      fits c.requires.0.0 c.requires.1.0.0,
      (c.requires.1.1.0, (omega (arith, z.l2_high, c.light_sums.auto.known), c.requires.1.1.1.0.1)),
    )

-- a row under the first table differs from z in at most so many chunks beside those of the heavy blocks
within : (c : After-saturating_sub-rest) → let a = c.args in
    (x : List ℕ) → Sent a.l a.numbers.now a.y.now x → Under a.l a.y.now a.heavy 0 0 a.t a.row.now x
    → apart a.l a.z.now x ≤ c.apart_light-light.result + apart_from a.l a.heavy a.z.now (values a.l x) 0
within c x sent u =
    let p = c.requires in
    let same = cleared_same c.args.l c.args.heavy _ _ c.light_sums.ensures.1 in
    c.apart_light-light.ensures.0 (values c.args.l x)
    (in_hand p.0.0 sent p.1.0.0 (under_same (same_wider (λ i c p q. inl) same) u) p.1.0.1)

-- one that differs from z in fewer chunks of the heavy blocks than are asked for is known
near-known : (c : After-saturating_sub-rest) → let a = c.args in
    (x : List ℕ) → Sent a.l a.numbers.now a.y.now x → Under a.l a.y.now a.heavy 0 0 a.t a.row.now x
    → apart_from a.l a.heavy a.z.now (values a.l x) 0 < c.saturating_sub-rest.result
    → Known (rows_of_slice (row_bits a.l) a.list.now a.kept.count a.kept.more) x
near-known c x sent u near =
    c.requires.1.1.1.1 x sent (omega (arith, near, within c x sent u, c.saturating_sub-rest.ensures))

-- where all rows are near, all are known
pub returns-then-all_near : goal.returns-then-all_near
returns-then-all_near c =
    let here = (goal.at.returns-then-all_near c).After-light_sums in
    let rest = (goal.at.returns-then-all_near c).After-saturating_sub-rest in (
      grown_none c.requires.0.1
          (λ x sent u. near-known rest x sent u
          (c.all_near.ensures c.if-all_near.true _ _ _ c.light_sums.ensures.0 (path here x sent u))),
      cleared here,
    )

pub prepare-p-requires : goal.prepare-p-requires
prepare-p-requires c =
    let z = sizes c.args.l (legal_bounds c.args.l c.requires.0.0.is_legal) in (
      fits c.requires.0.0 c.requires.1.0.0,
      (c.requires.1.1.0, (omega (arith, z.l2_high, c.light_sums.auto.known), c.requires.1.1.1.0.1)),
    )

pub returns-then-p : goal.returns-then-p
returns-then-p c =
    let a = c.args in
    let here = (goal.at.returns-then-p c).After-light_sums in
    let rest = (goal.at.returns-then-p c).After-saturating_sub-rest in
    let g = c.prepare-p.ensures.1.1 in (
      grown_none c.requires.0.1
          (λ x sent u.
          ⊎_elim
          (near-known rest x sent u)
          (λ far. absurd ((g _ _ _ c.light_sums.ensures.0 (path here x sent u) far).0 c.if-p.true))
          (lt_or_ge (apart_from a.l a.heavy a.z.now (values a.l x) 0) _)),
      cleared here,
    )

pub fill-requires : goal.fill-requires
fill-requires c =
    let sound = c.requires.1.0.0 in
    (fits c.requires.0.0 sound, (λ r h. few_left sound r, omega arith))

-- a row under the first table comes through marked states, where the marks let its own through
comes : (c : After-fill) → let a = c.args in (marks x : List ℕ) → Sent a.l a.numbers.now a.y.now x
    → Under a.l a.y.now a.heavy 0 0 a.t a.row.now x
    → Through a.l c.prepare-p.result.shape marks (own_left a.l a.y.now a.heavy x)
    (apart_from a.l a.heavy a.z.now (values a.l x))
    → apart a.l a.z.now x ≤ c.apart_light-light.result + apart_from a.l a.heavy a.z.now (values a.l x) 0
    → Comes a.l a.y.now a.numbers.now a.heavy c.prepare-p.result.shape c.light_sums.new.known marks c.fill.new.rests
    a.z.now c.at_first-sets.result c.apart_light-light.result 0 x
comes c marks x sent u t w =
    let a = c.args in
    let p = c.requires in
    let way = own-path p.0.0 sent p.1.0.0 u p.1.0.1 in
    let inside = p.1.0.0.inside in
    record {
      row = a.row.now;
      light = c.light_sums.ensures.0;
      path = subst
          (λ (v : List ℕ). Path a.l a.y.now a.numbers.now a.heavy a.row.now (each v) (values a.l x)
          (own_left a.l a.y.now a.heavy x))
          (sym c.prepare-p.ensures.0.1) way;
      through = t;
      sums = c.at_first-sets.ensures (values a.l x)
          (λ r h. block_sum p.0.0 x sent (get_or a.heavy.block r 0) (inside r h));
      rest-sums = c.fill.ensures.0 _ _ _ way;
      within = w;
    }

pub columns-requires : goal.columns-requires
columns-requires c =
    let p = c.requires in
    let z = sizes c.args.l (legal_bounds c.args.l p.0.0.is_legal) in
    let g = c.prepare-p.ensures in
    let shape : ShapeOf c.args.heavy c.prepare-p.result.shape c.args.t.left = record {
      blocks = g.0.0;
      shaped = g.1.0;
      within = λ s h. omega (arith, ap (λ (v : List ℕ). get_or v s 0) g.0.1);
    } in
    let looked : Looked c.args.l c.args.y.now c.args.totals.now c.args.counts.now c.light_sums.new.known c.args.z.now
    c.apart_light-light.result 0 = record {
      tables = p.1.1.0;
      sums = omega (arith, z.l2_high, c.light_sums.auto.known);
      others = p.1.1.1.0.1;
      small = omega (arith, c.apart_light-light.ensures.1);
    } in
    let wide : c.args.l.l1 * c.args.l.l2 ≤ length c.light_sums.new.row = omega (arith, p.1.1.1.0.0, c.light_sums.auto.row) in
    (p.0.0, (p.0.1, ((p.1.0.0, wide), (omega arith, (shape, (looked, p.1.1.1.1))))))

pub returns : goal.returns
returns c =
    let a = c.args in
    let here = (goal.at.returns c).After-light_sums in
    let rest = (goal.at.returns c).After-saturating_sub-rest in
    let filled = (goal.at.returns c).After-fill in
    let h = c.requires.0.1 in
    let g = c.prepare-p.ensures.1.1 in
    let held = c.if-p-2.held in
    let lets : (x : List ℕ) → Sent a.l a.numbers.now a.y.now x → Under a.l a.y.now a.heavy 0 0 a.t a.row.now x
    → c.saturating_sub-rest.result ≤ apart_from a.l a.heavy a.z.now (values a.l x) 0
    → Through a.l c.prepare-p.result.shape (take held c.prepare-p.new.marks) (own_left a.l a.y.now a.heavy x)
    (apart_from a.l a.heavy a.z.now (values a.l x)) =
    λ x sent u far. elim c.if-p-2.branch [
      | then-p-2 w ↦ rw (w.held-is, take_all 32768 c.prepare-p.new.marks (omega (arith, c.prepare-p.auto.marks)))
          ((g _ _ _ c.light_sums.ensures.0 (path here x sent u) far).1 w.if-p-2.true)
      | else-p-2 w ↦ rw w.held-is (λ j h k. absurd (omega (arith, k)))
    ] in (
      grown_weaken
          (λ x sent u.
          ⊎_elim
          {C = (Under a.l a.y.now a.heavy 0 0 a.t a.row.now x
          × (apart_from a.l a.heavy a.z.now (values a.l x) 0 < c.saturating_sub-rest.result))
          ⊎ (Under a.l a.y.now a.heavy 0 0 a.t c.light_sums.new.row x
          × Comes a.l a.y.now a.numbers.now a.heavy c.prepare-p.result.shape c.light_sums.new.known
          (take held c.prepare-p.new.marks) c.fill.new.rests a.z.now c.at_first-sets.result c.apart_light-light.result 0 x)}
          (λ near. inl (u, near))
          (λ far. inr (cleared-under here x u, comes filled _ x sent u (lets x sent u far) (within rest x sent u)))
          (lt_or_ge (apart_from a.l a.heavy a.z.now (values a.l x) 0) _))
          (grown_then h
          (grown_none h
          {P = λ x. Under a.l a.y.now a.heavy 0 0 a.t a.row.now x
          × (apart_from a.l a.heavy a.z.now (values a.l x) 0 < c.saturating_sub-rest.result)}
          (λ x sent p. near-known rest x sent p.0 p.1)) c.columns.ensures.0),
      changed here c.columns.ensures.1,
    )
