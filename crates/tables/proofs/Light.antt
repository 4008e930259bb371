-- In how many chunks a row differs from another one: those of the heavy blocks, counted column by column, and those of
-- the others, which are in hand. Rests on the sums over places (anchor). Assumes nothing.
use Prim.Native.Nat.{ℕ, zero, suc, ◌+◌, ◌*◌, ◌<◌, ◌≤◌}
use mathlib.Core.Path.{◌≡◌, refl, sym, ap, ◌∙◌}
use mathlib.Core.Bool.{cond}
use mathlib.Core.Logic.{⊎_elim}
use mathlib.Core.List.{List}
use native.Mathlib.Omega.{arith}
use native.Mathlib.Decide.{ℕ_discrete}
use lib.Dec.{eqb}
use lib.ListN.{get_or}
use Rattle.bits.proofs.Laws.{lt_or_ge}
use Rattle.message.specs.declared.Layout.{Layout}
use Rattle.lines.specs.Lines.{unlike}
use Rattle.anchor.specs.Anchor.{over}
use Rattle.anchor.proofs.Over.{over_none, over-next, over_front, over-same}
use Rattle.column.specs.Column.{apart_in}
use Rattle.column.specs.declared.Heavy.{Heavy}
use Rattle.marks.specs.Marks.{apart_before, apart_from}
use Rattle.tables.specs.Tables.{HeavyOf, LightIn}

module _ (l : Layout) (heavy : Heavy) (z vs : List ℕ) where
  abbrev differs : ℕ → ℕ
  differs = unlike vs z

  -- in the first k chunks of the first n heavy blocks
  unfoldable pub inBlocks : (n k : ℕ) → ℕ
  inBlocks zero k = 0
  inBlocks (suc s) k = inBlocks s k + over differs (get_or heavy.block s 0 * l.l2) k

  none_yet : (n : ℕ) → inBlocks n 0 ≡ 0
  unfolding inBlocks
  none_yet zero = refl
  none_yet (suc s) = omega (arith, none_yet s, over_none differs (get_or heavy.block s 0 * l.l2))

  -- one column more
  column-more : (n k : ℕ) → inBlocks n (k + 1) ≡ inBlocks n k + apart_in l heavy z vs k n
  unfolding apart_in inBlocks
  column-more zero k = omega arith
  column-more (suc s) k = omega (arith, column-more s k, over-next differs (get_or heavy.block s 0 * l.l2) k)

  -- counted by columns they are as many as counted by blocks
  by-columns : (k : ℕ) → apart_before l heavy z vs k ≡ inBlocks heavy.n k
  unfolding apart_before
  by-columns zero = sym (none_yet heavy.n)
  by-columns (suc k) =
      let e : k + 1 ≡ suc k = omega arith in
      omega (arith, by-columns k, rw e at (column-more heavy.n k))

  start_none : apart_before l heavy z vs 0 ≡ 0
  unfolding apart_before
  start_none = refl

  -- all of them
  pub all_apart : apart_from l heavy z vs 0 ≡ inBlocks heavy.n l.l2
  all_apart = omega (arith, by-columns l.l2, start_none)

-- ---- the count, block by block: the first i blocks, of which h are heavy
pub record Counted (l : Layout) (heavy : Heavy) (row z : List ℕ) (count h i : ℕ) : Type 0 where
  pub blocks : i ≤ l.l1
  pub few : h ≤ heavy.n
  pub passed : (s : ℕ) → s < h → get_or heavy.block s 0 < i
  pub ahead : (s : ℕ) → h ≤ s → s < heavy.n → i ≤ get_or heavy.block s 0
  pub low : count ≤ i * l.l2
  pub bound : (vs : List ℕ) → LightIn l heavy row vs
      → over (unlike vs z) 0 (i * l.l2) ≤ count + inBlocks l heavy z vs h l.l2

module _ (l : Layout) (heavy : Heavy) (row z : List ℕ) (of : HeavyOf l heavy) where
  pub counted_none : Counted l heavy row z 0 0 0
  unfolding inBlocks
  counted_none =
      record {
        blocks = omega arith;
        few = omega arith;
        passed = λ s h. absurd (omega arith);
        ahead = λ s h k. omega arith;
        low = omega arith;
        bound = λ vs light.
            let e : 0 * l.l2 ≡ 0 = omega arith in
            let none : over (unlike vs z) 0 (0 * l.l2) ≡ 0 = ap (over (unlike vs z) 0) e ∙ over_none (unlike vs z) 0 in
            omega (arith, none);
      }

  module _ (count h i : ℕ) (c : Counted l heavy row z count h i) (less : i < l.l1) where
    next : (i + 1) * l.l2 ≡ i * l.l2 + l.l2
    next = omega arith

    -- a heavy block
    pub counted_heavy : h < heavy.n → get_or heavy.block h 0 ≡ i → Counted l heavy row z count (h + 1) (i + 1)
    unfolding inBlocks
    counted_heavy k e =
        record {
          blocks = omega arith;
          few = omega arith;
          passed = λ s q. earlier s q (ℕ_discrete s h);
          ahead = λ s q r. omega (arith, of.ascending h s (omega arith) r);
          low = omega (arith, c.low, next);
          bound = λ vs light.
              let up : h + 1 ≡ suc h = omega arith in
              let one : inBlocks l heavy z vs (h + 1) l.l2
              ≡ inBlocks l heavy z vs h l.l2 + over (unlike vs z) (get_or heavy.block h 0 * l.l2) l.l2 =
              ap (λ (n : ℕ). inBlocks l heavy z vs n l.l2) up
              in
              rw next (omega (arith, c.bound vs light, over_front (unlike vs z) (i * l.l2) l.l2, rw e at one));
        }
      where
        earlier : (s : ℕ) → s < h + 1 → Dec (s ≡ h) → get_or heavy.block s 0 < i + 1
        earlier s q (yes d) = rw d (omega arith)
        earlier s q (no d) = omega (arith, c.passed s (omega arith))

    -- another block, which is in hand
    pub counted-light : (h < heavy.n → get_or heavy.block h 0 ≡ i → ⊥) → (n : ℕ) → n ≤ l.l2
        → n ≡ over (unlike row z) (i * l.l2) l.l2 → Counted l heavy row z (count + n) h (i + 1)
    counted-light other n m e =
        record {
          blocks = omega arith;
          few = c.few;
          passed = λ s q. omega (arith, c.passed s q);
          ahead = λ s q r. omega (arith, later s q r (ℕ_discrete s h));
          low = omega (arith, c.low, next);
          bound = λ vs light.
              let same = over-same (unlike vs z) (unlike row z) (i * l.l2) l.l2
              (λ t q. ap (λ (v : ℕ). cond (eqb v (get_or z (i * l.l2 + t) 0)) 0 1) (light i t less q not-heavy))
              in
              rw next (omega (arith, c.bound vs light, over_front (unlike vs z) (i * l.l2) l.l2, same));
        }
      where
        later : (s : ℕ) → h ≤ s → s < heavy.n → Dec (s ≡ h) → i < get_or heavy.block s 0
        later s q r (yes d) = ne-lt (c.ahead s q r) (λ k. other (rw (sym d) r) (rw (sym d) (sym k)))
          where
            ne-lt : {a b : ℕ} → a ≤ b → (a ≡ b → ⊥) → a < b
            ne-lt g f = omega (arith, f)
        later s q r (no d) = omega (arith, c.ahead h (omega arith) (omega arith), of.ascending h s (omega arith) r)

        not-heavy : (s : ℕ) → s < heavy.n → get_or heavy.block s 0 ≡ i → ⊥
        not-heavy s r k =
            ⊎_elim (λ q. omega (arith, c.passed s q)) (λ q. omega (arith, later s q r (ℕ_discrete s h))) (lt_or_ge s h)

  -- all blocks are counted
  pub counted-all : (count h i : ℕ) → Counted l heavy row z count h i → l.l1 ≤ i → (vs : List ℕ) → LightIn l heavy row vs
      → over (unlike vs z) 0 (l.l1 * l.l2) ≤ count + apart_from l heavy z vs 0
  counted-all count h i c done vs light =
      let all : i ≡ l.l1 = omega (arith, c.blocks) in
      let none : h ≡ heavy.n =
      ⊎_elim (λ q. absurd (omega (arith, c.ahead h (omega arith) q, of.inside h q))) (λ q. omega (arith, c.few))
      (lt_or_ge h heavy.n) in
      rw (all_apart l heavy z vs) (rw (all, none) at (c.bound vs light))
