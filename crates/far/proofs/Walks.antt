-- Tables of what walks count, step by step. Assumes nothing.
use Prim.Native.Nat.{ℕ, ◌+◌, ◌<◌, ◌≤◌, max}
use mathlib.Core.Path.{◌≡◌, ◌∙◌}
use mathlib.Core.Bool.{Bool}
use mathlib.Core.List.{List}
use native.Mathlib.Decide.{ℕ_discrete}
use native.Mathlib.Nat.{mul-le-mul_right}
use native.Mathlib.Omega.{arith}
use borrow.Author.Count.{below_more}
use lib.ListN.{length, get_or, set, length-set}
use lib.Seq.{get_or-set_same, get_or-set_other}
use Rattle.message.specs.declared.Layout.{Layout}
use Rattle.column.specs.declared.Heavy.{Heavy}
use Rattle.states.specs.States.{lefts}
use Rattle.far.specs.Far.{column_of, left_of, Reads, read_apart, step_at, Covered, Stepped}

module _ (l : Layout) (y : List ℕ) (heavy : Heavy) (z : List ℕ) (s size : ℕ) (ahead : Bool) (at : ℕ)
    (small : size < lefts) where
  -- an entry of an earlier step stands before those of a later one
  pub earlier : (i t w : ℕ) → i < t → w ≤ size → step_at at i + w < step_at at t
  earlier i t w h k = omega (arith, small, mul-le-mul_right {m = i + 1} {n = t} lefts (omega arith))

  -- what is changed after a step leaves the steps up to it
  pub covered-kept : (t : ℕ) → t ≤ l.l2 → (entry exit : List ℕ)
      → ((i : ℕ) → i < step_at at (t + 1) → get_or exit i 0 ≡ get_or entry i 0)
      → Covered l y heavy z s size ahead at t entry → Covered l y heavy z s size ahead at t exit
  covered-kept t u entry exit k c w n walk i h =
      rw (k (step_at at i + w i) (earlier i (t + 1) (w i) (omega arith) (walk.within i (omega arith)))) (c w n walk i h)

  -- one step more
  pub covered_next : (t : ℕ) → t < l.l2 → (entry exit : List ℕ) → Stepped l y heavy z s size ahead at t entry exit
      → Covered l y heavy z s size ahead at t entry → Covered l y heavy z s size ahead at (t + 1) exit
  covered_next t u entry exit d c w n walk i h = go (ℕ_discrete i (t + 1))
    where
      here : n t ≤ get_or entry (step_at at t + w t) 0
      here = c w n walk t (omega arith)

      last : Dec (w (t + 1) ≡ w t) → n (t + 1) ≤ get_or exit (step_at at (t + 1) + w (t + 1)) 0
      last (yes e) =
          rw e (omega (arith, here, walk.same t u e, d.whole (w t) (walk.within t (omega arith)) (walk.reads t u e)))
      last (no e) =
          omega (
            arith,
            here,
            walk.more t u,
            d.lost (w t) (w (t + 1)) (omega (arith, walk.rises t u)) (walk.within (t + 1) (omega arith)),
          )

      go : Dec (i ≡ t + 1) → n i ≤ get_or exit (step_at at i + w i) 0
      go (yes e) = rw e (last (ℕ_discrete (w (t + 1)) (w t)))
      go (no e) =
          covered-kept t (omega arith) entry exit d.before c w n walk i (omega arith)

-- ---- the entries of one step more, one by one
module _ (l : Layout) (y : List ℕ) (heavy : Heavy) (z : List ℕ) (s size : ℕ) (ahead : Bool) (at t : ℕ)
    (entry : List ℕ) where
  -- the entries below w are made; most is above each entry of the step before below w
  pub record Stepping (table : List ℕ) (most w : ℕ) : Type 0 where
    pub high : w ≤ size + 1
    pub long : length table ≡ length entry
    pub before : (i : ℕ) → i < step_at at (t + 1) → get_or table i 0 ≡ get_or entry i 0
    pub few : most ≤ t + 1
    pub above : (v : ℕ) → v < w → get_or entry (step_at at t + v) 0 + 1 ≤ most
    pub low : (v : ℕ) → v < w → get_or table (step_at at (t + 1) + v) 0 ≤ t + 1
    pub lost : (v : ℕ) → v < w → (u : ℕ) → u < v
        → get_or entry (step_at at t + u) 0 + 1 ≤ get_or table (step_at at (t + 1) + v) 0
    pub whole : (v : ℕ) → v < w → Reads l y heavy s (column_of ahead l.l2 t) (left_of ahead size v)
        → get_or entry (step_at at t + v) 0 + read_apart l y heavy z s (column_of ahead l.l2 t) (left_of ahead size v)
        ≤ get_or table (step_at at (t + 1) + v) 0

  -- one entry more: a says whether the chunk as read is another
  pub stepping_next : (table : List ℕ) (most w a new more : ℕ) → size < lefts → step_at at (t + 2) ≤ length table
      → w ≤ size
      → Stepping table most w → get_or entry (step_at at t + w) 0 ≤ t → a ≤ 1
      → (Reads l y heavy s (column_of ahead l.l2 t) (left_of ahead size w)
      → read_apart l y heavy z s (column_of ahead l.l2 t) (left_of ahead size w) ≤ a)
      → new ≡ max most (get_or entry (step_at at t + w) 0 + a) → more ≡ max most (get_or entry (step_at at t + w) 0 + 1)
      → Stepping (set table (step_at at (t + 1) + w) new) more (w + 1)
  stepping_next table most w a new more small room h c here one reads up on =
      record {
        high = omega arith;
        long = length-set table place new ∙ c.long;
        before = λ i k. get_or-set_other table place i new 0 (λ e. omega arith) ∙ c.before i k;
        few = omega (arith, c.few);
        above = below_more _ _ (λ v k. omega (arith, c.above v k)) (omega arith);
        low = below_more _ _ (λ v k. rw (other v k) (c.low v k)) (rw same (omega (arith, c.few)));
        lost = below_more _ _ (λ v k u r. rw (other v k) (c.lost v k u r))
            (λ u r. rw same (omega (arith, c.above u r)));
        whole = below_more _ _ (λ v k r. rw (other v k) (c.whole v k r))
            (λ r. rw same (omega (arith, reads r)));
      }
    where
      place : ℕ
      place = step_at at (t + 1) + w

      same : get_or (set table place new) place 0 ≡ new
      same = get_or-set_same table place new 0 (omega (arith, small))

      other : (v : ℕ) → v < w
          → get_or (set table place new) (step_at at (t + 1) + v) 0 ≡ get_or table (step_at at (t + 1) + v) 0
      other v k = get_or-set_other table place (step_at at (t + 1) + v) new 0 (λ e. omega arith)

  pub stepping_last : (table : List ℕ) (most w : ℕ) → size < w → Stepping table most w
      → Stepped l y heavy z s size ahead at t entry table
  stepping_last table most w h c =
      record {
        long = c.long;
        before = c.before;
        low = λ v k. c.low v (omega arith);
        lost = λ u v r k. c.lost v (omega arith) u r;
        whole = λ v k. c.whole v (omega arith);
      }
