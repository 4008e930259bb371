-- The places of the erased chunks: how they are gathered from the open cells one by one, and how contents are put there.
-- Assumes nothing.
use Prim.Native.Nat.{ℕ, zero, suc, ◌+◌, ◌-◌, ◌*◌, ◌^◌, ◌<◌, ◌≤◌}
use mathlib.Core.Path.{◌≡◌, refl, sym, ap, subst, ◌∙◌}
use mathlib.Core.Bool.{true}
use mathlib.Core.Logic.{◌⊎◌, inl, inr, ⊎_elim}
use mathlib.Core.List.{List}
use native.Mathlib.Omega.{arith}
use borrow.Author.Tests.{ne_eqb}
use lib.ListN.{length, get_or, set}
use lib.Seq.{get_or-set_same, get_or-set_other}
use Rattle.message.specs.Layout.{legal}
use Rattle.message.specs.declared.Layout.{Layout}
use Rattle.message.proofs.Legal.{legal_bounds}
use Rattle.erasures.specs.Erasures.{weight}
use Rattle.cells.specs.Cells.{Open, OpenAt, chunk_of, SameBut}
use Rattle.cells.specs.declared.Cells.{Cells}
use Rattle.cells.proofs.Same.{one_chunk}
use Rattle.cells.proofs.State.{same_or_not}
use Rattle.recover.specs.Recover.{OpenInside, Among, ErasedAt, Spots, Collected, PutAt}
use Rattle.recover.proofs.Weights.{weight-next, weight-some}

-- a row with checks has no more chunks than the field has places
pub few-chunks : (l : Layout) → legal l ≡ true → 0 < l.r → l.l1 * l.l2 ≤ 2 ^ l.nc - 1
few-chunks l e = (legal_bounds l e).field

-- ---- a place among others
-- a place is among the first n or not
pub among_or_not : (places : List ℕ) (p n : ℕ) → Among n places p ⊎ (Among n places p → ⊥)
among_or_not places p zero = inr (λ a. omega (arith, a.1.0))
among_or_not places p (suc n) =
    ⊎_elim (λ a. inl (a.0, (omega (arith, a.1.0), a.1.1)))
    (λ none. ⊎_elim (λ e. inl (n, (omega arith, e))) (λ other. inr (last none other)) (same_or_not (get_or places n 0) p))
    (among_or_not places p n)
  where
    last : (Among n places p → ⊥) → (get_or places n 0 ≡ p → ⊥) → Among (suc n) places p → ⊥
    last none other a =
        ⊎_elim (λ e. other (ap (λ (w : ℕ). get_or places w 0) (sym e) ∙ a.1.1))
        (λ d. none (a.0, (omega (arith, a.1.0), a.1.1)))
        (same_or_not a.0 n)

-- a place added at the end stands there, and the first n stay
module _ (n : ℕ) (places : List ℕ) (p : ℕ) (room : n < length places) where
  pub added_same : get_or (set places n p) n 0 ≡ p
  added_same = get_or-set_same places n p 0 room

  pub added_other : (w : ℕ) → w < n → get_or (set places n p) w 0 ≡ get_or places w 0
  added_other w h = get_or-set_other places n w p 0 (λ e. omega arith)

  among-added : (q : ℕ) → Among n places q → Among (n + 1) (set places n p) q
  among-added q a = (a.0, (omega (arith, a.1.0), added_other a.0 a.1.0 ∙ a.1.1))

  -- what holds of each of the first n places, and of the new one, holds of each afterwards
  each-added : (P : ℕ → ℕ → Type 0) → ((w : ℕ) → w < n → P w (get_or places w 0)) → P n p
      → (w : ℕ) → w < n + 1 → P w (get_or (set places n p) w 0)
  each-added P all new w h =
      ⊎_elim (λ e. rw e (subst (P n) (sym added_same) new))
      (λ d. let l : w < n = omega arith in rw (added_other w l) (all w l)) (same_or_not w n)

  -- a new place in the row is another
  spots-added : (size : ℕ) → p < size → (Among n places p → ⊥) → Spots n size places → Spots (n + 1) size (set places n p)
  spots-added size low new s =
      record {
        inside = each-added (λ (w q : ℕ). q < size) s.inside low;
        apart = λ v w h g. each-added
            (λ (w q : ℕ). get_or (set places n p) v 0 ≡ q → v ≡ w)
            (λ w g. each-added (λ (v q : ℕ). q ≡ get_or places w 0 → v ≡ w) (λ v h. s.apart v w h g)
            (λ e. absurd (new (w, (g, sym e)))) v h)
            (each-added (λ (v q : ℕ). q ≡ p → v ≡ n) (λ v h e. absurd (new (v, (h, e)))) (λ e. refl) v h)
            w
            g;
      }

-- ---- the places of the open cells
module _ (l : Layout) (cells : Cells) where
  -- the next cell when its place is there already, if it is open
  pub collected_same : (z n : ℕ) (places : List ℕ) → z < length cells.lost
      → (Open cells z → Among n places (chunk_of l cells z))
      → Collected l cells z n places → Collected l cells (z + 1) n places
  collected_same z n places low h k =
      record {
        few = omega (arith, k.few);
        no_more = omega (arith, k.no_more, weight-next cells.lost z low);
        spots = k.spots;
        all = λ w g o. ⊎_elim
            (λ e. rw e (h (rw e at o)))
            (λ d. k.all w (omega arith) o)
            (same_or_not w z);
        only = λ w g. let o = k.only w g in (o.0, (omega (arith, o.1.0), o.1.1));
      }

  -- the next cell when its place is new
  pub collected_new : (z n p : ℕ) (places : List ℕ) → z < length cells.lost → Open cells z → n < length places
      → p ≡ chunk_of l cells z → p < l.l1 * l.l2 → (Among n places p → ⊥) → Collected l cells z n places
      → Collected l cells (z + 1) (n + 1) (set places n p)
  collected_new z n p places last unfound room is low new k =
      let own =
      rw (ne_eqb (get_or cells.lost z 0) 0 (λ e. absurd (omega (arith, unfound.1)))) at (weight-next cells.lost z last)
      in
      record {
        few = omega (arith, k.few);
        no_more = omega (arith, k.no_more, own);
        spots = spots-added n places p room (l.l1 * l.l2) low new k.spots;
        all = λ w g o. ⊎_elim
            (λ e. rw e (n, (omega arith, added_same n places p room ∙ is)))
            (λ d. among-added n places p room (chunk_of l cells w) (k.all w (omega arith) o))
            (same_or_not w z);
        only = each-added n places p room
            (λ (w q : ℕ). (u : ℕ) × ((u < z + 1) × (Open cells u × (q ≡ chunk_of l cells u))))
            (λ w g. let o = k.only w g in (o.0, (omega (arith, o.1.0), o.1.1))) (z, (omega arith, (unfound, is)));
      }

  -- where a cell is open there is a place
  pub collected_some : (n : ℕ) (places : List ℕ) → length cells.lost ≡ 12 → Collected l cells 12 n places
      → 0 < weight cells.lost → 0 < n
  collected_some n places size k h =
      let q = weight-some cells.lost h in
      let low : q.0 < 12 = omega (arith, q.1.0) in
      omega (arith, (k.all q.0 low (low, q.1.1)).1.0)

  -- and the places are those of open cells
  pub collected_open : (n : ℕ) (places : List ℕ) → OpenInside l cells → Collected l cells 12 n places
      → (i c : ℕ) → i < l.l1 → c < l.l2 → ErasedAt l n places i c → OpenAt cells i c
  collected_open n places inside k i c h g a =
      let o = k.only a.0 a.1.0 in
      let z = o.0 in
      let p = one_chunk l.l2 (get_or cells.block z 0) (get_or cells.column z 0) i c (inside z o.1.1.0).1 g
      (sym o.1.1.1 ∙ a.1.1) in
      (z, (o.1.1.0, p))

-- ---- contents put at the places
module _ (places contents entry : List ℕ) where
  pub put-none : PutAt 0 places contents entry entry
  put-none = record { there = λ w h. absurd (omega arith); elsewhere = λ p none. refl }

  -- the next content at its place, which is another than those before
  pub put_next : (n w : ℕ) (out : List ℕ) → Spots n (length out) places → w < n → PutAt w places contents entry out
      → PutAt (w + 1) places contents entry (set out (get_or places w 0) (get_or contents w 0))
  put_next n w out s h k =
      let p : ℕ = get_or places w 0 in
      let v : ℕ = get_or contents w 0 in
      let last : get_or (set out p v) p 0 ≡ v = get_or-set_same out p v 0 (s.inside w h) in
      record {
        there = λ u g. ⊎_elim
            (λ e. rw e last)
            (λ d. get_or-set_other out p (get_or places u 0) v 0 (λ e. d (s.apart u w (omega arith) h e))
            ∙ k.there u (omega arith))
            (same_or_not u w);
        elsewhere = λ q none. get_or-set_other out p q v 0 (λ e. none (w, (omega arith, sym e)))
            ∙ k.elsewhere q (λ a. none (a.0, (omega (arith, a.1.0), a.1.1)));
      }

-- what is put at the places, also twice, leaves the other chunks as they are
pub put_same : {l : Layout} {n : ℕ} {places first second entry between exit : List ℕ}
    → PutAt n places first entry between → PutAt n places second between exit
    → SameBut l (ErasedAt l n places) entry exit
put_same {l} {n} {places} p q =
    record {
      at = λ i c h g.
          ⊎_elim inl (λ none. inr (q.elsewhere (i * l.l2 + c) none ∙ p.elsewhere (i * l.l2 + c) none))
          (among_or_not places (i * l.l2 + c) n);
    }
