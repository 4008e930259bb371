-- The open cells of a block, cut out one by one: what they bring and the rest of the block are the block's total, since
-- a line's total changes just by what a changed chunk brings. Assumes nothing.
use Prim.Native.Nat.{ℕ, zero, suc, ◌+◌, ◌*◌, ◌^◌, ◌<◌, ◌≤◌}
use mathlib.Core.Path.{◌≡◌, refl, sym, ap, ap₂, ◌∙◌}
use mathlib.Core.Bool.{Bool, true, false, cond, false≢true}
use mathlib.Core.List.{List}
use native.Mathlib.Decide.{ℕ_discrete}
use native.Mathlib.Nat.{mul-one}
use native.Mathlib.Numerals.{add-one}
use native.Mathlib.Omega.{arith}
use borrow.Author.Count.{below_more}
use borrow.Author.Tests.{eq-eqb, ne_eqb, eqb-true, eqb-false}
use lib.Dec.{eqb}
use lib.ListN.{length, get_or, set, drop, length-drop, length-set}
use lib.Seq.{get_or-set_same, get_or-set_other}
use Rattle.bits.specs.Bits.{digits}
use Rattle.bits.proofs.Laws.{length_digits, set_zero}
use Rattle.vt.specs.Sum.{total}
use Rattle.message.specs.declared.Layout.{Layout}
use Rattle.consistent.specs.Greedy.{losses}
use Rattle.consistent.proofs.Greedy.{losses-most, piece}
use Rattle.lines.proofs.Parts.{total_zero, total_but}
use Rattle.cells.specs.Cells.{Open, chunk_of}
use Rattle.cells.specs.declared.Cells.{Cells}
use Rattle.weigh.specs.Weigh.{Can, brought}
use Rattle.blocks.specs.Blocks.{is_in, bare, Longer, Lose, own_of, block_total, CutOut}
use Rattle.blocks.specs.declared.Cut.{Cut}

-- what chunks bring depends on their blocks and their numbers alone
brought-same : (nc : ℕ) (a b : List ℕ) (us vs : ℕ → ℕ) (n : ℕ)
    → ((s : ℕ) → s < n → (get_or a s 0 ≡ get_or b s 0) × (us s ≡ vs s))
    → brought nc a us n ≡ brought nc b vs n
unfolding brought
brought-same nc a b us vs zero same = refl
brought-same nc a b us vs (suc n) same =
    ap₂ ◌+◌ (brought-same nc a b us vs n (λ s h. same s (omega arith)))
    (ap₂ (λ (i v : ℕ). total (i * nc + 1) (digits nc v)) (same n (omega arith)).0 (same n (omega arith)).1)

module _ (l : Layout) (cells : Cells) (i : ℕ) where
  -- the chunk of block i in column c
  abbrev at : ℕ → ℕ
  at c = i * l.l2 + c

  -- no cell among the first k is open in column c of block i
  abbrev None : (k c : ℕ) → Type 0
  None k c = (z : ℕ) → z < k → is_in cells i z ≡ true → get_or cells.column z 0 ≡ c → ⊥

  -- what the next cell does
  pub bare_in : (k : ℕ) (vs : List ℕ) → is_in cells i k ≡ true
      → bare l cells i (k + 1) vs ≡ set (bare l cells i k vs) (at (get_or cells.column k 0)) 0
  unfolding bare
  bare_in k vs e = rw (add-one k, e) refl

  pub bare_out : (k : ℕ) (vs : List ℕ) → is_in cells i k ≡ false → bare l cells i (k + 1) vs ≡ bare l cells i k vs
  unfolding bare
  bare_out k vs e = rw (add-one k, e) refl

  -- it keeps how many they are
  pub length-bare : (k : ℕ) (vs : List ℕ) → length (bare l cells i k vs) ≡ length vs
  unfolding bare
  length-bare zero vs = refl
  length-bare (suc k) vs = by (is_in cells i k) (length-bare k vs)
    where
      by : (b : Bool) → length (bare l cells i k vs) ≡ length vs
          → length (cond b (set (bare l cells i k vs) (at (get_or cells.column k 0)) 0) (bare l cells i k vs))
          ≡ length vs
      by true r = length-set (bare l cells i k vs) (at (get_or cells.column k 0)) 0 ∙ r
      by false r = r

  -- numbers that are alike but for the open cells are alike with zeros there
  pub bare-same : (k c : ℕ) (us vs : List ℕ) → (None k c → get_or us (at c) 0 ≡ get_or vs (at c) 0)
      → get_or (bare l cells i k us) (at c) 0 ≡ get_or (bare l cells i k vs) (at c) 0
  unfolding bare
  bare-same zero c us vs e = e (λ z h. absurd (omega arith))
  bare-same (suc k) c us vs e =
      by (is_in cells i k) refl (ℕ_discrete c (get_or cells.column k 0)) (λ n. bare-same k c us vs (λ f. e (more n f)))
    where
      here : ℕ
      here = at (get_or cells.column k 0)

      more : (is_in cells i k ≡ true → get_or cells.column k 0 ≡ c → ⊥) → None k c → None (suc k) c
      more n f z h = last (ℕ_discrete z k)
        where
          last : Dec (z ≡ k) → is_in cells i z ≡ true → get_or cells.column z 0 ≡ c → ⊥
          last (yes d) = rw d n
          last (no d) = f z (omega arith)

      by : (b : Bool) → is_in cells i k ≡ b → Dec (c ≡ get_or cells.column k 0)
          → ((is_in cells i k ≡ true → get_or cells.column k 0 ≡ c → ⊥)
          → get_or (bare l cells i k us) (at c) 0 ≡ get_or (bare l cells i k vs) (at c) 0)
          → get_or (cond b (set (bare l cells i k us) here 0) (bare l cells i k us)) (at c) 0
          ≡ get_or (cond b (set (bare l cells i k vs) here 0) (bare l cells i k vs)) (at c) 0
      by false q d r = r (λ t. absurd (false≢true (sym q ∙ t)))
      by true q (yes d) r = rw d (set_zero (bare l cells i k us) here ∙ sym (set_zero (bare l cells i k vs) here))
      by true q (no d) r =
          let away : (at c ≡ here → ⊥) = λ p. d (omega (arith, p)) in
          get_or-set_other (bare l cells i k us) here (at c) 0 0 away
          ∙ r (λ t p. d (sym p))
          ∙ sym (get_or-set_other (bare l cells i k vs) here (at c) 0 0 away)

  -- a cell that is open and stands in the block
  pub in_open : (z : ℕ) → z < 12 → is_in cells i z ≡ true → Open cells z × (get_or cells.block z 0 ≡ i)
  in_open z h e = by (eqb (get_or cells.lost z 0) 0) refl e
    where
      by : (b : Bool) → eqb (get_or cells.lost z 0) 0 ≡ b → cond b false (eqb (get_or cells.block z 0) i) ≡ true
          → Open cells z × (get_or cells.block z 0 ≡ i)
      by true q e = absurd (false≢true e)
      by false q e =
          let some : (get_or cells.lost z 0 ≡ 0 → ⊥) = eqb-false (get_or cells.lost z 0) 0 q in
          ((h, omega (arith, some)), eqb-true _ _ e)

  pub open_in : (z : ℕ) → Open cells z → get_or cells.block z 0 ≡ i → is_in cells i z ≡ true
  open_in z o e = rw (ne_eqb (get_or cells.lost z 0) 0 (λ n. omega (arith, o.1, n))) (eq-eqb _ _ e)

  module _ (y : List ℕ) where
    -- before the first cell nothing is cut out
    pub cut-none : (cut : Cut) → cut.chunks.n ≡ 0 → (length cut.chunks.block ≡ 6)
        × ((length cut.chunks.place ≡ 6) × (length cut.chunks.lost ≡ 6)) → CutOut l y cells i 0 cut
    unfolding bare brought
    cut-none cut e sizes =
        let none : (s : ℕ) → s < cut.chunks.n → ⊥ = λ s h. omega (arith, e) in
        record {
          few = omega (arith, e);
          sizes = sizes;
          before = λ s h. absurd (none s h);
          behind = λ vs c h g. refl;
          can = λ vs lose.
              record {
                small = λ s h. absurd (none s h);
                few = λ s h. absurd (none s h);
                there = λ s h. absurd (none s h);
                loses = λ s h. absurd (none s h);
              };
          whole = λ vs. rw e (omega arith);
        }

    -- a cell that is not open, or stands in another block, is passed over
    pub cut_skip : (k : ℕ) (cut : Cut) → is_in cells i k ≡ false → CutOut l y cells i k cut
        → CutOut l y cells i (k + 1) cut
    cut_skip k cut e c =
        record {
          few = c.few;
          sizes = c.sizes;
          before = c.before;
          behind = λ vs j h g. rw (bare_out k vs e) (c.behind vs j h g);
          can = c.can;
          whole = λ vs. rw (bare_out k vs e) (c.whole vs);
        }

    -- an open cell of the block, behind those before it, is cut out
    module _ (k : ℕ) (old new : Cut) (low : k < 12) (e : is_in cells i k ≡ true)
        (column : get_or cells.column k 0 < l.l2)
        (room : get_or cells.place k 0 ≤ length y)
        (g : Longer old (get_or cells.column k 0) (get_or cells.place k 0) (get_or cells.lost k 0) new)
        (c : CutOut l y cells i k old)
      where
        abbrev n : ℕ
        n = old.chunks.n

        abbrev j : ℕ
        j = get_or cells.column k 0

        sizes : (length new.chunks.block ≡ 6) × ((length new.chunks.place ≡ 6) × (length new.chunks.lost ≡ 6))
        sizes =
            let s = c.sizes in (
              rw g.blocks (length-set old.chunks.block n j ∙ s.0),
              (
                rw g.places (length-set old.chunks.place n _ ∙ s.1.0),
                rw g.losses (length-set old.chunks.lost n _ ∙ s.1.1),
              ),
            )

        -- the chunks before it, and it
        block-was : (s : ℕ) → s < n → get_or new.chunks.block s 0 ≡ get_or old.chunks.block s 0
        block-was s h = rw g.blocks (get_or-set_other old.chunks.block n s j 0 (λ q. omega (arith, q)))

        block-is : get_or new.chunks.block n 0 ≡ j
        block-is = rw g.blocks (get_or-set_same old.chunks.block n j 0 (omega (arith, g.room, c.sizes.0)))

        place-was : (s : ℕ) → s < n → get_or new.chunks.place s 0 ≡ get_or old.chunks.place s 0
        place-was s h = rw g.places (get_or-set_other old.chunks.place n s _ 0 (λ q. omega (arith, q)))

        place_is : get_or new.chunks.place n 0 ≡ get_or cells.place k 0
        place_is = rw g.places (get_or-set_same old.chunks.place n _ 0 (omega (arith, g.room, c.sizes.1.0)))

        lost-was : (s : ℕ) → s < n → get_or new.chunks.lost s 0 ≡ get_or old.chunks.lost s 0
        lost-was s h = rw g.losses (get_or-set_other old.chunks.lost n s _ 0 (λ q. omega (arith, q)))

        lost_is : get_or new.chunks.lost n 0 ≡ get_or cells.lost k 0
        lost_is = rw g.losses (get_or-set_same old.chunks.lost n _ 0 (omega (arith, g.room, c.sizes.1.1)))

        own-was : (vs : List ℕ) (s : ℕ) → s < n → own_of l i new vs s ≡ own_of l i old vs s
        own-was vs s h = ap (λ (b : ℕ). get_or vs (i * l.l2 + b) 0) (block-was s h)

        own_is : (vs : List ℕ) → own_of l i new vs n ≡ get_or vs (at j) 0
        own_is vs = ap (λ (b : ℕ). get_or vs (i * l.l2 + b) 0) block-is

        -- its number loses just its count
        module _ (vs : List ℕ) (lose : Lose l y cells i vs) where
          open-here : Open cells k × (get_or cells.block k 0 ≡ i)
          open-here = in_open k low e

          loses-here : (get_or vs (at j) 0 < 2 ^ l.nc)
              × (losses (digits l.nc (get_or vs (at j) 0)) (drop (get_or cells.place k 0) y) ≡ get_or cells.lost k 0)
          loses-here =
              let is : chunk_of l cells k ≡ at j = ap (λ (b : ℕ). b * l.l2 + j) open-here.1 in
              rw is at (lose k open-here.0 open-here.1)

          few-here : get_or cells.lost k 0 ≤ l.nc
          few-here =
              let d = digits l.nc (get_or vs (at j) 0) in
              omega (
                arith,
                losses-most d (drop (get_or cells.place k 0) y),
                length_digits l.nc (get_or vs (at j) 0),
                loses-here.1,
              )

          there-here : get_or cells.place k 0 + l.nc ≤ length y + get_or cells.lost k 0
          there-here =
              let d = digits l.nc (get_or vs (at j) 0) in
              let p =
              piece l.nc _ d (drop (get_or cells.place k 0) y) (length_digits l.nc (get_or vs (at j) 0))
              loses-here.1 in
              omega (arith, p.within, length-drop (get_or cells.place k 0) y, room, few-here)

          can-next : Can l.nc y new.chunks (own_of l i new vs)
          can-next =
              let a = c.can vs lose in
              record {
                small = λ s h. below_more (λ s. own_of l i new vs s < 2 ^ l.nc) n
                    (λ s h. rw (own-was vs s h) (a.small s h)) (rw (own_is vs) loses-here.0) s (rw g.count at h);
                few = λ s h. below_more (λ s. get_or new.chunks.lost s 0 ≤ l.nc) n
                    (λ s h. rw (lost-was s h) (a.few s h)) (rw lost_is few-here) s (rw g.count at h);
                there =
                    λ s h. below_more
                    (λ s. get_or new.chunks.place s 0 + l.nc ≤ length y + get_or new.chunks.lost s 0) n
                    (λ s h. rw (place-was s h, lost-was s h) (a.there s h)) (rw (place_is, lost_is) there-here) s
                    (rw g.count at h);
                loses = λ s h. below_more
                    (λ s. losses (digits l.nc (own_of l i new vs s)) (drop (get_or new.chunks.place s 0) y)
                    ≡ get_or new.chunks.lost s 0)
                    n
                    (λ s h. rw (own-was vs s h, place-was s h, lost-was s h) (a.loses s h))
                    (rw (own_is vs, place_is, lost_is) loses-here.1) s (rw g.count at h);
              }

        -- what the chunks bring with it
        brought-next : (vs : List ℕ) → brought l.nc new.chunks.block (own_of l i new vs) new.chunks.n
            ≡ brought l.nc old.chunks.block (own_of l i old vs) n
            + total (j * l.nc + 1) (digits l.nc (get_or vs (at j) 0))
        unfolding brought
        brought-next vs =
            ap (brought l.nc new.chunks.block (own_of l i new vs)) (g.count ∙ add-one n)
            ∙ ap₂ ◌+◌
            (brought-same l.nc new.chunks.block old.chunks.block (own_of l i new vs) (own_of l i old vs) n
            (λ s h. (block-was s h, own-was vs s h)))
            (ap₂ (λ (b v : ℕ). total (b * l.nc + 1) (digits l.nc v)) block-is (own_is vs))

        -- the block's total is that with a zero there and what it brings
        whole-next : (vs : List ℕ)
            → block_total l i (bare l cells i (k + 1) vs)
            + brought l.nc new.chunks.block (own_of l i new vs) new.chunks.n
            ≡ block_total l i vs
        whole-next vs =
            let w = bare l cells i k vs in
            let one : i * l.l2 + j * 1 ≡ at j = omega (arith, mul-one j) in
            let step = total_but l.nc (i * l.l2) 1 l.l2 j column (set w (at j) 0) w (away w) in
            let was : get_or w (at j) 0 ≡ get_or vs (at j) 0 = c.behind vs j g.behind column in
            let s = rw (one, set_zero w (at j), was, total_zero l.nc (j * l.nc + 1)) at step in
            ap₂ (λ (u : List ℕ) (b : ℕ). block_total l i u + b) (bare_in k vs e) (brought-next vs)
            ∙ omega (arith, s, c.whole vs)
          where
            away : (w : List ℕ) (t : ℕ) → t < l.l2 → (t ≡ j → ⊥)
                → get_or (set w (at j) 0) (i * l.l2 + t * 1) 0 ≡ get_or w (i * l.l2 + t * 1) 0
            away w t h q = get_or-set_other w (at j) (i * l.l2 + t * 1) 0 0 (λ p. q (omega (arith, p, mul-one t)))

        pub cut-next : CutOut l y cells i (k + 1) new
        cut-next =
            record {
              few = omega (arith, g.count, g.room);
              sizes = sizes;
              before = λ s h. below_more (λ s. get_or new.chunks.block s 0 < new.next) n
                  (λ s h. rw (block-was s h) (omega (arith, c.before s h, g.next, g.behind)))
                  (rw block-is (omega (arith, g.next))) s
                  (rw g.count at h);
              behind = λ vs t h q.
                  rw (bare_in k vs e)
                  (get_or-set_other (bare l cells i k vs) (at j) (at t) 0 0 (λ p. omega (arith, p, g.next))
                  ∙ c.behind vs t (omega (arith, g.next, g.behind)) q);
              can = can-next;
              whole = whole-next;
            }
