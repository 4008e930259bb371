-- A row that crosses a column with no loss, or with one: its chunks in the heavy blocks but one are read whole there,
-- and the sum comes out. One that loses more has fewer left. Rests on the laws of the crate whole. Assumes nothing.
use Rattle.std.proofs.Common.{ℕ, zero, suc, ◌+◌, ◌%◌, ◌<◌, ◌≤◌, ◌≡◌, refl, sym, ap, ◌∙◌, Bool, true, false, cond, ◌⊎◌, inl, inr, ⊎_elim, List, arith, eq-eqb, ne_eqb, length, get_or}
use Rattle.std.proofs.Math.Bool.{false≢true}
use Rattle.std.proofs.Math.Decide.{ℕ_discrete}
use Rattle.std.proofs.Math.Nat.{mod-add-mod}
use Rattle.message.specs.declared.Layout.{Layout}
use Rattle.states.specs.States.{each, firsts}
use Rattle.column.specs.Column.{Fit, Light, Crosses}
use Rattle.column.specs.declared.Heavy.{Heavy}
use Rattle.whole.specs.Whole.{modulus, brings_in, OneLess}
use Rattle.states.proofs.Sums.{firsts_same, firsts_but}
use Rattle.whole.proofs.Whole.{weightOf, weights-sum, kept-legible, kept_read}
use Rattle.costs.specs.Costs.{ReadBut, brings_but}

-- ---- losses left in some blocks, and later
module _ (left next : ℕ → ℕ) where
  -- where no block has more left, there are no more left together
  pub firsts_fall : (n : ℕ) → ((s : ℕ) → s < n → next s ≤ left s) → firsts next n ≤ firsts left n
  unfolding firsts
  firsts_fall zero h = omega arith
  firsts_fall (suc n) h = omega (arith, firsts_fall n (λ s k. h s (omega arith)), h n (omega arith))

  -- and each has as many left, or there are fewer
  pub kept_or_fewer : (n : ℕ) → ((s : ℕ) → s < n → next s ≤ left s)
      → ((s : ℕ) → s < n → next s ≡ left s) ⊎ (firsts next n < firsts left n)
  unfolding firsts
  kept_or_fewer zero h = inl (λ s k. absurd (omega arith))
  kept_or_fewer (suc n) h = go (ℕ_discrete (next n) (left n)) (kept_or_fewer n (λ s k. h s (omega arith)))
    where
      fall : firsts next n ≤ firsts left n
      fall = firsts_fall n (λ s k. h s (omega arith))

      go : Dec (next n ≡ left n) → ((s : ℕ) → s < n → next s ≡ left s) ⊎ (firsts next n < firsts left n)
          → ((s : ℕ) → s < suc n → next s ≡ left s) ⊎ (firsts next n + next n < firsts left n + left n)
      go (yes e) (inl all) = inl each
        where
          each : (s : ℕ) → s < suc n → next s ≡ left s
          each s k = last (ℕ_discrete s n)
            where
              last : Dec (s ≡ n) → next s ≡ left s
              last (yes d) = rw d e
              last (no d) = all s (omega arith)
      go (yes e) (inr f) = inr (omega arith)
      go (no e) o = inr (omega (arith, fall, h n (omega arith)))

  -- where there is one fewer together, one block has one less
  pub one_of : (n : ℕ) → ((s : ℕ) → s < n → next s ≤ left s) → firsts next n + 1 ≡ firsts left n
      → (s : ℕ) × ((s < n) × OneLess n left next s)
  unfolding firsts
  one_of zero h e = absurd (omega arith)
  one_of (suc n) h e = go (ℕ_discrete (next n) (left n)) (λ q. one_of n (λ s k. h s (omega arith)) q)
    where
      lower : (s : ℕ) → s < n → next s ≤ left s
      lower s k = h s (omega arith)

      fall : firsts next n ≤ firsts left n
      fall = firsts_fall n lower

      go : Dec (next n ≡ left n)
          → (firsts next n + 1 ≡ firsts left n → (s : ℕ) × ((s < n) × OneLess n left next s))
          → (s : ℕ) × ((s < suc n) × OneLess (suc n) left next s)
      go (yes d) before = (o.0, (omega (arith, o.1.0), (o.1.1.0, λ t k q. other t k q (ℕ_discrete t n))))
        where
          o : (s : ℕ) × ((s < n) × OneLess n left next s)
          o = before (omega arith)

          other : (t : ℕ) → t < suc n → (t ≡ o.0 → ⊥) → Dec (t ≡ n) → next t ≡ left t
          other t k q (yes r) = rw r d
          other t k q (no r) = o.1.1.1 t (omega arith) q
      go (no d) before =
          (n, (omega arith, (omega (arith, fall, h n (omega arith)), λ t k q. others t (omega (arith, q)))))
        where
          others : (t : ℕ) → t < n → next t ≡ left t
          others t k =
              ⊎_elim (λ all. all t k) (λ f. absurd (omega (arith, f, h n (omega arith)))) (kept_or_fewer n lower)

-- ---- what the chunks but one bring
module _ (l : Layout) (y : List ℕ) (heavy : Heavy) (j : ℕ) (left : ℕ → ℕ) (but : ℕ) where
  pub but_own : brings_but l y heavy j left but but ≡ 0
  but_own = ap (λ (t : Bool). cond t 0 (brings_in l y heavy j left but)) (eq-eqb but but refl)

  pub but_other : (s : ℕ) → (s ≡ but → ⊥) → brings_but l y heavy j left but s ≡ brings_in l y heavy j left s
  but_other s d = ap (λ (t : Bool). cond t 0 (brings_in l y heavy j left s)) (ne_eqb s but d)

-- ---- a row that crosses a column
module _ {l : Layout} {y numbers : List ℕ} {heavy : Heavy} {row : List ℕ} {j : ℕ} {left next : ℕ → ℕ} {vs : List ℕ}
    (c : Crosses l y numbers heavy row j left next vs) where
  -- the chunks but that of block s, each read whole, and what block s brings, make up the sum
  module _ (f : Fit l y numbers heavy) (inside : j < l.l2) (known : List ℕ) (light : Light l heavy row known) where
    -- without a loss, no block being left out
    pub kept-sum : ((s : ℕ) → s < heavy.n → next s ≡ left s)
        → (get_or known j 0 + firsts (brings_but l y heavy j left heavy.n) heavy.n) % modulus l
        ≡ get_or numbers (l.l1 + j) 0
    kept-sum kept =
        let same = firsts_same (brings_but l y heavy j left heavy.n) (weightOf c) heavy.n
        (λ s h. but_other l y heavy j left heavy.n s (λ e. omega (arith, h, e)) ∙ sym (kept_read c s h (kept s h))) in
        ap (λ (v : ℕ). (get_or known j 0 + v) % modulus l) same ∙ weights-sum c f inside known light

    -- block s being left out, where no other has a loss
    pub one-sum : (s : ℕ) → s < heavy.n → ((t : ℕ) → t < heavy.n → (t ≡ s → ⊥) → next t ≡ left t)
        → ((get_or known j 0 + firsts (brings_but l y heavy j left s) heavy.n) % modulus l + weightOf c s) % modulus l
        ≡ get_or numbers (l.l1 + j) 0
    one-sum s h kept =
        let but : ℕ → ℕ = brings_but l y heavy j left s in
        let same = firsts_but but (weightOf c) heavy.n s h
        (λ t k d. but_other l y heavy j left s t d ∙ sym (kept_read c t k (kept t k d))) in
        let e : get_or known j 0 + firsts but heavy.n + weightOf c s ≡ get_or known j 0 + firsts (weightOf c) heavy.n =
        omega (arith, same, but_own l y heavy j left s) in
        mod-add-mod (get_or known j 0 + firsts but heavy.n) (modulus l) (weightOf c s) ∙ ap (λ (v : ℕ). v % modulus l) e
        ∙ weights-sum c f inside known light

  -- chunks that lose no bit can be read whole
  pub read_but : (size : List ℕ) (but : ℕ) → ((s : ℕ) → s < heavy.n → left s ≤ each size s)
      → ((s : ℕ) → s < heavy.n → (s ≡ but → ⊥) → next s ≡ left s) → ReadBut l (length y) heavy size j left but heavy.n
  read_but size but low kept s h d = (low s h, kept-legible c s h (kept s h d))

-- ---- what a column costs
module _ {l : Layout} {y numbers : List ℕ} {heavy : Heavy} {row : List ℕ} {j : ℕ} {left next : ℕ → ℕ} {vs : List ℕ}
    (c : Crosses l y numbers heavy row j left next vs) where
  pub costs_none : firsts next heavy.n + 0 ≤ firsts left heavy.n
  costs_none = omega (arith, firsts_fall left next heavy.n c.falls)

  -- where it cannot be without a loss
  pub costs_one : (whole : Bool) → (((s : ℕ) → s < heavy.n → next s ≡ left s) → whole ≡ true) → whole ≡ false
      → firsts next heavy.n + 1 ≤ firsts left heavy.n
  costs_one whole can e =
      ⊎_elim
      (λ kept. absurd (false≢true (sym e ∙ can kept)))
      (λ f. omega (arith, f))
      (kept_or_fewer left next heavy.n c.falls)

  -- nor with just one
  pub costs_two : (one : Bool) → ((s : ℕ) × ((s < heavy.n) × OneLess heavy.n left next s) → one ≡ true) → one ≡ false
      → firsts next heavy.n + 1 ≤ firsts left heavy.n → firsts next heavy.n + 2 ≤ firsts left heavy.n
  costs_two one can e fewer = go (ℕ_discrete (firsts next heavy.n + 1) (firsts left heavy.n))
    where
      go : Dec (firsts next heavy.n + 1 ≡ firsts left heavy.n) → firsts next heavy.n + 2 ≤ firsts left heavy.n
      go (yes d) = absurd (false≢true (sym e ∙ can (one_of left next heavy.n c.falls d)))
      go (no d) = omega (arith, fewer)
