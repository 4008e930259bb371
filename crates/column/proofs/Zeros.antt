-- A chunk-string whose chunks in the heavy blocks count as zero: its total and what those chunks bring are the whole
-- total, since a line's total changes just by what a changed chunk brings; and it is that of the row whose heavy blocks
-- are cleared in all columns. Assumes nothing.
use Prim.Native.Nat.{ℕ, zero, suc, ◌+◌, ◌*◌, ◌%◌, ◌<◌, ◌≤◌}
use mathlib.Core.Path.{◌≡◌, refl, sym, ap, ◌∙◌}
use mathlib.Core.List.{List}
use mathlib.Core.Logic.{⊎_elim}
use native.Mathlib.Decide.{ℕ_discrete}
use native.Mathlib.Nat.{mod-add-mod, add_comm}
use native.Mathlib.Numerals.{add-one}
use native.Mathlib.Omega.{arith}
use lib.ListN.{get_or, set}
use lib.Seq.{get_or-set_other}
use Rattle.bits.proofs.Laws.{lt_or_ge, set_zero}
use Rattle.vt.specs.Sum.{total, sum}
use Rattle.message.specs.declared.Layout.{Layout}
use Rattle.message.proofs.Fields.{field_room}
use Rattle.lines.specs.Lines.{line}
use Rattle.lines.proofs.Lines.{line_same}
use Rattle.lines.proofs.Parts.{total_zero, total_but}
use Rattle.lines.proofs.Turns.{sum_of_total}
use Rattle.weigh.specs.Weigh.{brought}
use Rattle.column.specs.Column.{Fit, chunk_at, value_at, filled, Zeroed, Cleared}
use Rattle.column.specs.declared.Heavy.{Heavy}

-- the chunks of two blocks are two chunks
other_block : (n a b i j : ℕ) → i < n → j < n → (a ≡ b → ⊥) → j + a * n ≡ b * n + i → ⊥
other_block n a b i j h g d e =
    ⊎_elim (λ k. omega (arith, field_room b n a k)) (λ k. omega (arith, field_room a n b (omega arith))) (lt_or_ge a b)

-- ---- the chunks of the heavy blocks as zeros
module _ (l : Layout) (heavy : Heavy) (j : ℕ) where
  -- chunk c belongs to none of the first k heavy blocks
  abbrev Else : (k c : ℕ) → Type 0
  Else k c = (s : ℕ) → s < k → c ≡ chunk_at l heavy j s → ⊥

  -- the row with the first k of them as zeros
  abbrev zeros : (k : ℕ) → List ℕ → List ℕ
  zeros k us = filled l heavy (λ s. 0) j k us

  -- the chunks of the others stay
  zeros-other : (k c : ℕ) (us : List ℕ) → Else k c → get_or (zeros k us) c 0 ≡ get_or us c 0
  unfolding filled
  zeros-other zero c us n = refl
  zeros-other (suc k) c us n =
      get_or-set_other (zeros k us) (chunk_at l heavy j k) c 0 0 (n k (omega arith))
      ∙ zeros-other k c us (λ s h. n s (omega arith))

  -- rows that are alike but for the heavy blocks
  zeros-same : (k c : ℕ) (us vs : List ℕ) → (Else k c → get_or us c 0 ≡ get_or vs c 0)
      → get_or (zeros k us) c 0 ≡ get_or (zeros k vs) c 0
  unfolding filled
  zeros-same zero c us vs e = e (λ s h. absurd (omega arith))
  zeros-same (suc k) c us vs e = go (ℕ_discrete c (chunk_at l heavy j k)) (λ n. zeros-same k c us vs (λ f. e (more n f)))
    where
      more : (c ≡ chunk_at l heavy j k → ⊥) → Else k c → Else (suc k) c
      more n f s h q = last (ℕ_discrete s k)
        where
          last : Dec (s ≡ k) → ⊥
          last (yes d) = n (q ∙ ap (chunk_at l heavy j) d)
          last (no d) = f s (omega arith) q

      go : Dec (c ≡ chunk_at l heavy j k)
          → ((c ≡ chunk_at l heavy j k → ⊥) → get_or (zeros k us) c 0 ≡ get_or (zeros k vs) c 0)
          → get_or (set (zeros k us) (chunk_at l heavy j k) 0) c 0 ≡ get_or (set (zeros k vs) (chunk_at l heavy j k) 0) c 0
      go (yes d) r =
          rw d (set_zero (zeros k us) (chunk_at l heavy j k) ∙ sym (set_zero (zeros k vs) (chunk_at l heavy j k)))
      go (no d) r =
          get_or-set_other (zeros k us) (chunk_at l heavy j k) c 0 0 d ∙ r d
          ∙ sym (get_or-set_other (zeros k vs) (chunk_at l heavy j k) c 0 0 d)

  -- ---- what the heavy blocks' chunks bring
  module _ (y numbers : List ℕ) (f : Fit l y numbers heavy) (inside : j < l.l2) (vs : List ℕ) where
    -- a heavy block's chunk is none of the earlier ones'
    else-earlier : (k : ℕ) → k < heavy.n → Else k (chunk_at l heavy j k)
    else-earlier k h s g e =
        let n = f.ascending s k g h in
        other_block l.l2 (get_or heavy.block k 0) (get_or heavy.block s 0) j j inside inside (λ q. omega arith)
        (omega (arith, e))

    -- the numbers of the heavy blocks' chunks
    abbrev own : ℕ → ℕ
    own = value_at l heavy vs j

    -- the total of the chunk-string
    abbrev whole : List ℕ → ℕ
    whole us = total 1 (line l.nc j l.l2 l.l1 us)

    -- what the first k bring and the rest are the whole
    pub makes_up : (k : ℕ) → k ≤ heavy.n → whole (zeros k vs) + brought l.nc heavy.block own k ≡ whole vs
    unfolding filled brought
    makes_up zero h = omega arith
    makes_up (suc k) h =
        let i : ℕ = get_or heavy.block k 0 in
        let c : ℕ = chunk_at l heavy j k in
        let at : j + i * l.l2 ≡ c = add_comm j (i * l.l2) in
        let b = f.inside k (omega arith) in
        let step = total_but l.nc j l.l2 l.l1 i b (set (zeros k vs) c 0) (zeros k vs) (away k) in
        let was : get_or (zeros k vs) c 0 ≡ own k = zeros-other k c vs (else-earlier k (omega arith)) in
        let s = rw (at, set_zero (zeros k vs) c, was, total_zero l.nc (i * l.nc + 1)) at step in
        omega (arith, s, makes_up k (omega arith))
      where
        away : (k : ℕ) → (i : ℕ) → i < l.l1 → (i ≡ get_or heavy.block k 0 → ⊥)
            → get_or (set (zeros k vs) (chunk_at l heavy j k) 0) (j + i * l.l2) 0 ≡ get_or (zeros k vs) (j + i * l.l2) 0
        away k i g n =
            get_or-set_other (zeros k vs) (chunk_at l heavy j k) (j + i * l.l2) 0 0
            (other_block l.l2 i (get_or heavy.block k 0) j j inside inside n)

    -- the sum of the chunk-string, where a row in hand has the chunks of the other blocks
    pub whole_sum : (row : List ℕ)
        → ((i : ℕ) → i < l.l1 → ((s : ℕ) → s < heavy.n → get_or heavy.block s 0 ≡ i → ⊥)
        → get_or vs (i * l.l2 + j) 0 ≡ get_or row (i * l.l2 + j) 0)
        → (sum (line l.nc j l.l2 l.l1 (filled l heavy (λ s. 0) j heavy.n row))
        + brought l.nc heavy.block own heavy.n)
        % (l.l1 * l.nc + 1)
        ≡ sum (line l.nc j l.l2 l.l1 vs)
    whole_sum row others =
        let m : ℕ = l.l1 * l.nc + 1 in
        let b : ℕ = brought l.nc heavy.block own heavy.n in
        let e = line_same l.nc j l.l2 l.l1 (zeros heavy.n row) (zeros heavy.n vs) alike in
        ap (λ (v : ℕ). (v + b) % m) (ap sum e ∙ sym (sum_of_total l.nc j l.l2 l.l1 (zeros heavy.n vs)))
        ∙ mod-add-mod (whole (zeros heavy.n vs)) m b
        ∙ ap (λ (v : ℕ). v % m) (makes_up heavy.n (omega arith))
        ∙ sum_of_total l.nc j l.l2 l.l1 vs
      where
        alike : (i : ℕ) → i < l.l1
            → get_or (zeros heavy.n row) (j + i * l.l2) 0 ≡ get_or (zeros heavy.n vs) (j + i * l.l2) 0
        alike i h =
            zeros-same heavy.n (j + i * l.l2) row vs
            (λ n.
            rw (add_comm j (i * l.l2))
            (sym (others i h (λ s g e. n s g (add_comm j (i * l.l2) ∙ ap (λ (b : ℕ). b * l.l2 + j) (sym e))))))

-- ---- all columns at once
-- no heavy block yet
pub cleared_none : (l : Layout) (heavy : Heavy) (row : List ℕ) → Cleared l heavy 0 row row
unfolding filled
cleared_none l heavy row j i g h = refl

-- a heavy block more
pub cleared_next : (l : Layout) (heavy : Heavy) (k : ℕ) (row old new : List ℕ) → Cleared l heavy k row old
    → Zeroed l.l2 (get_or heavy.block k 0 * l.l2) old new → Cleared l heavy (k + 1) row new
unfolding filled
cleared_next l heavy k row old new before z j i g h = rw (add-one k) (go (ℕ_discrete i b))
  where
    b : ℕ
    b = get_or heavy.block k 0

    us : List ℕ
    us = filled l heavy (λ s. 0) j k row

    go : Dec (i ≡ b) → get_or new (j + i * l.l2) 0 ≡ get_or (set us (b * l.l2 + j) 0) (j + i * l.l2) 0
    go (yes d) = rw (d, add_comm j (b * l.l2)) (z.zeros j g ∙ sym (set_zero us (b * l.l2 + j)))
    go (no d) =
        z.others (j + i * l.l2) (λ v q. other_block l.l2 i b v j q g d) ∙ before j i g h
        ∙ sym (get_or-set_other us (b * l.l2 + j) (j + i * l.l2) 0 0 (other_block l.l2 i b j j g g d))

-- the chunk-strings are those that Light speaks of
pub cleared_sum : (l : Layout) (heavy : Heavy) (row new : List ℕ) → Cleared l heavy heavy.n row new
    → (j : ℕ) → j < l.l2
    → total 1 (line l.nc j l.l2 l.l1 new) % (l.l1 * l.nc + 1)
    ≡ sum (line l.nc j l.l2 l.l1 (filled l heavy (λ s. 0) j heavy.n row))
cleared_sum l heavy row new c j g =
    sum_of_total l.nc j l.l2 l.l1 new ∙ ap sum (line_same l.nc j l.l2 l.l1 _ _ (λ i h. c j i g h))
