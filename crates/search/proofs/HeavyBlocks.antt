-- The heavy blocks of a pattern, gathered block by block. Assumes nothing.
use Prim.Native.Nat.{ℕ, ◌+◌, ◌<◌, ◌≤◌}
use mathlib.Core.Path.{◌≡◌, sym, ap, ◌∙◌}
use mathlib.Core.Logic.{◌⊎◌, inl, inr, ⊎_elim}
use mathlib.Core.List.{List}
use native.Mathlib.Omega.{arith}
use lib.ListN.{length, get_or, take, set}
use lib.Seq.{get_or-set_same, get_or-set_other}
use Rattle.bits.proofs.Laws.{lt_or_ge}
use Rattle.consistent.specs.Greedy.{in_all}
use Rattle.column.specs.declared.Heavy.{Heavy}
use Rattle.search.specs.Patterns.{HeavyIn, Joined}
use Rattle.anchor.proofs.Totals.{total-next}
use Rattle.search.proofs.Totals.{total-set}

-- either below i or i itself
below_next : (b i : ℕ) → b < i + 1 → (b < i) ⊎ (b ≡ i)
below_next b i h = ⊎_elim (λ k. inl k) (λ k. inr (omega arith)) (lt_or_ge b i)

-- no block yet
pub heavy_none : (counts : List ℕ) (heavy : Heavy) (left : List ℕ) → heavy.n ≡ 0 → in_all left ≡ 0
    → ((s : ℕ) → get_or left s 0 ≡ 0)
    → HeavyIn counts 0 heavy left
unfolding in_all
heavy_none counts heavy left e z f =
    record {
      few = omega arith;
      inside = λ s h. absurd (omega arith);
      ascending = λ s t h k. absurd (omega arith);
      lost = λ s h. absurd (omega arith);
      many = λ s h. absurd (omega arith);
      spare = λ s h. f s;
      end = λ s h. absurd (omega arith);
      every = λ b h. absurd (omega arith);
      total = omega arith;
    }

module _ (counts : List ℕ) (i : ℕ) (heavy : Heavy) (left : List ℕ) (q : HeavyIn counts i heavy left)
    (h : i < length counts) where
  -- block i has none or one loss
  pub heavy_light : get_or counts i 0 < 2 → HeavyIn counts (i + 1) heavy left
  heavy_light a =
      record {
        few = omega (arith, q.few, total-next counts i h);
        inside = λ s k. omega (arith, q.inside s k);
        ascending = q.ascending;
        lost = q.lost;
        many = q.many;
        spare = q.spare;
        end = q.end;
        every = λ b k g. ⊎_elim
            (λ m. q.every b m g)
            (λ (m : b ≡ i). absurd (omega (arith, ap (λ (n : ℕ). get_or counts n 0) m)))
            (below_next b i k);
        total = omega (arith, q.total, total-next counts i h);
      }

  -- block i is heavy
  module _ (e : ℕ) (after : Heavy) (lefts : List ℕ) (j : Joined heavy left i (get_or counts i 0) e after lefts)
      (room : heavy.n < 6) (total : e ≡ in_all (take (i + 1) counts)) where
    -- what holds of the entries that were there, and of the new one, holds of all
    all : (P : ℕ → Type 0) → ((s : ℕ) → s < heavy.n → P s) → P heavy.n → (s : ℕ) → s < after.n → P s
    all P f g s k = ⊎_elim (f s) (λ (m : s ≡ heavy.n). rw m g) (below_next s heavy.n (omega (arith, j.one_more)))

    -- an entry that was there stays, and the new one stands behind
    kept : (xs : List ℕ) {ys : List ℕ} (v s : ℕ) → ys ≡ set xs heavy.n v → (s ≡ heavy.n → ⊥)
        → get_or ys s 0 ≡ get_or xs s 0
    kept xs v s k m = ap (λ (t : List ℕ). get_or t s 0) k ∙ get_or-set_other xs heavy.n s v 0 m

    new : (xs : List ℕ) {ys : List ℕ} (v : ℕ) → ys ≡ set xs heavy.n v → length xs ≡ 6 → get_or ys heavy.n 0 ≡ v
    new xs v k m = ap (λ (t : List ℕ). get_or t heavy.n 0) k ∙ get_or-set_same xs heavy.n v 0 (omega arith)

    kept_block : (s : ℕ) → s < heavy.n → get_or after.block s 0 ≡ get_or heavy.block s 0
    kept_block s k = kept heavy.block i s j.blocks (λ m. omega arith)

    new-block : get_or after.block heavy.n 0 ≡ i
    new-block = new heavy.block i j.blocks j.places.0

    kept-end : (s : ℕ) → s < heavy.n → get_or after.end s 0 ≡ get_or heavy.end s 0
    kept-end s k = kept heavy.end e s j.ends (λ m. omega arith)

    new-end : get_or after.end heavy.n 0 ≡ e
    new-end = new heavy.end e j.ends j.places.1.0

    kept-left : (s : ℕ) → (s ≡ heavy.n → ⊥) → get_or lefts s 0 ≡ get_or left s 0
    kept-left s k = kept left (get_or counts i 0) s j.lefts k

    new-left : get_or lefts heavy.n 0 ≡ get_or counts i 0
    new-left = new left (get_or counts i 0) j.lefts j.places.1.1

    -- the count of a block, and the total up to its end
    abbrev count : ℕ → ℕ
    count b = get_or counts b 0

    abbrev up_to : ℕ → ℕ
    up_to b = in_all (take (b + 1) counts)

    pub heavy_more : 2 ≤ get_or counts i 0 → HeavyIn counts (i + 1) after lefts
    heavy_more a =
        record {
          few = omega (arith, q.few, total-next counts i h, j.one_more);
          inside =
              all (λ s. get_or after.block s 0 < i + 1) (λ s k. omega (arith, q.inside s k, kept_block s k))
              (omega (arith, new-block));
          ascending = λ s t k m. ⊎_elim
              (λ n. omega (arith, q.ascending s t k n, kept_block s (omega arith), kept_block t n))
              (λ (n : t ≡ heavy.n). rw n
              (omega (arith, q.inside s (omega arith), kept_block s (omega arith), new-block)))
              (below_next t heavy.n (omega (arith, j.one_more)));
          lost = all (λ s. get_or lefts s 0 ≡ count (get_or after.block s 0))
              (λ s k. kept-left s (λ m. omega arith) ∙ q.lost s k ∙ ap count (sym (kept_block s k)))
              (new-left ∙ ap count (sym new-block));
          many =
              all (λ s. 2 ≤ get_or lefts s 0) (λ s k. omega (arith, q.many s k, kept-left s (λ m. omega arith)))
              (omega (arith, new-left));
          spare = λ s k. kept-left s (λ m. omega (arith, j.one_more)) ∙ q.spare s (omega (arith, j.one_more));
          end = all (λ s. get_or after.end s 0 ≡ up_to (get_or after.block s 0))
              (λ s k. kept-end s k ∙ q.end s k ∙ ap up_to (sym (kept_block s k)))
              (new-end ∙ total ∙ ap up_to (sym new-block));
          every = λ b k g. ⊎_elim
              (λ m. let w = q.every b m g in
              (w.0, (omega (arith, w.1.0, j.one_more), kept_block w.0 w.1.0 ∙ w.1.1)))
              (λ (m : b ≡ i). (heavy.n, (omega (arith, j.one_more), new-block ∙ sym m)))
              (below_next b i k);
          total =
              omega (
                arith,
                q.total,
                total-next counts i h,
                total-set left heavy.n (get_or counts i 0),
                ap in_all j.lefts,
              );
        }
