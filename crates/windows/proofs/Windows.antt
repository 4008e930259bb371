-- The tables of a string: how they are filled place by place, that those of its later part are their later part, and
-- that they give the sum of the next bits. Assumes nothing.
use Prim.Native.Nat.{ℕ, zero, suc, ◌+◌, ◌-◌, ◌*◌, ◌%◌, ◌<◌, ◌≤◌}
use mathlib.Core.Path.{◌≡◌, sym, ap, ◌∙◌}
use mathlib.Core.Logic.{⊎_elim}
use mathlib.Core.List.{List, [], ◌∷◌}
use native.Mathlib.Nat.{zero-mul, suc-mul}
use native.Mathlib.Numerals.{add-one}
use native.Mathlib.Omega.{arith}
use lib.ListN.{length, get_or, take, drop, set, length-drop}
use lib.Seq.{take-suc, take-add, get_or-set_same, get_or-set_other, get_or-drop, length-take-le}
use Rattle.bits.specs.Bits.{AllBits, longest}
use Rattle.bits.proofs.Laws.{bits-take, lt_or_ge}
use Rattle.vt.specs.Ones.{ones}
use Rattle.vt.specs.Sum.{total, sum}
use Rattle.vt.proofs.Totals.{times_bit, total_up, ones-length}
use Rattle.vt.proofs.Weighing.{ones-append}
use Rattle.message.proofs.Positions.{total-append}
use Rattle.windows.specs.Windows.{Tables}

-- a string further on by p places
pub total_on : (p : ℕ) (x : List ℕ) → total (p + 1) x ≡ total 1 x + p * ones x
total_on zero x = omega (arith, zero-mul (ones x))
total_on (suc p) x =
    let e : suc p + 1 ≡ suc (p + 1) = omega arith in
    ap (λ (i : ℕ). total i x) e ∙ total_up (p + 1) x ∙ omega (arith, total_on p x, suc-mul p (ones x))

-- no total is higher than each position, at most m, taken once
total-most : (k m : ℕ) (x : List ℕ) → AllBits x → k + length x ≤ m → total k x ≤ length x * m
unfolding total
total-most k m [] a h = omega arith
total-most k m (b ∷ x) a h =
    omega (arith, times_bit k b a.0, total-most (suc k) m x a.1 (omega arith), suc-mul (length x) m)

-- one bit more
total-more : (y : List ℕ) (i : ℕ) → i < length y → total 1 (take (i + 1) y) ≡ total 1 (take i y) + (i + 1) * get_or y i 0
unfolding total
total-more y i h =
    let n : 1 + length (take i y) ≡ i + 1 = omega (arith, length-take-le i y (omega arith)) in
    rw (add-one i, take-suc y i 0)
    (total-append 1 (take i y) (get_or y i 0 ∷ []) ∙ omega (arith, ap (λ (k : ℕ). k * get_or y i 0) n))

ones-more : (y : List ℕ) (i : ℕ) → i < length y → ones (take (i + 1) y) ≡ ones (take i y) + get_or y i 0
unfolding ones
ones-more y i h = rw (add-one i, take-suc y i 0) (ones-append (take i y) (get_or y i 0 ∷ []) ∙ omega arith)

-- ---- the tables of a whole string, filled up to place i
pub record Filled (y totals counts : List ℕ) (i : ℕ) : Type 0 where
  pub total-at : (j : ℕ) → j ≤ i → get_or totals j 0 ≡ total 1 (take j y)
  pub count_at : (j : ℕ) → j ≤ i → get_or counts j 0 ≡ ones (take j y)

-- a table whose places up to i are filled, once the next is
set_next : (f : ℕ → ℕ) (t : List ℕ) (i v : ℕ) → i + 1 < length t → ((j : ℕ) → j ≤ i → get_or t j 0 ≡ f j) → v ≡ f (i + 1)
    → (j : ℕ) → j ≤ i + 1 → get_or (set t (i + 1) v) j 0 ≡ f j
set_next f t i v room q e j h =
    ⊎_elim
    (λ (k : j < i + 1). get_or-set_other t (i + 1) j v 0 (λ z. omega arith) ∙ q j (omega arith))
    (λ (k : i + 1 ≤ j). let z : j ≡ i + 1 = omega arith in rw z (get_or-set_same t (i + 1) v 0 room ∙ e))
    (lt_or_ge j (i + 1))

pub filled-start : (y totals counts : List ℕ) → 0 < length totals → 0 < length counts
    → Filled y (set totals 0 0) (set counts 0 0) 0
unfolding total ones
filled-start y totals counts h k =
    record {
      total-at = λ j l. let z : j ≡ 0 = omega arith in rw z (get_or-set_same totals 0 0 0 h);
      count_at = λ j l. let z : j ≡ 0 = omega arith in rw z (get_or-set_same counts 0 0 0 k);
    }

module _ {y totals counts : List ℕ} {i : ℕ} (q : Filled y totals counts i) where
  pub filled_next : length y < length totals → length y < length counts → i < length y
      → Filled y (set totals (i + 1) (get_or totals i 0 + (i + 1) * get_or y i 0))
      (set counts (i + 1) (get_or counts i 0 + get_or y i 0))
      (i + 1)
  filled_next m n h =
      record {
        total-at = set_next (λ (j : ℕ). total 1 (take j y)) totals i _ (omega arith) q.total-at
            (omega (arith, q.total-at i (omega arith), total-more y i h));
        count_at = set_next (λ (j : ℕ). ones (take j y)) counts i _ (omega arith) q.count_at
            (omega (arith, q.count_at i (omega arith), ones-more y i h));
      }

  pub filled-tables : length y < length totals → length y < length counts → length y ≤ i → Tables y 0 totals counts
  unfolding total ones
  filled-tables m n h =
      record {
        totals_long = m;
        counts-long = n;
        total-at = λ j k. omega (arith, q.total-at j (omega arith), q.total-at 0 (omega arith));
        count_at = λ j k. omega (arith, q.count_at j (omega arith), q.count_at 0 (omega arith));
      }

  -- how high the numbers are
  pub filled-low : AllBits y → length y ≤ longest → i ≤ length y
      → (get_or totals i 0 ≤ i * (longest + 1)) × (get_or counts i 0 ≤ i)
  filled-low b h k =
      let n = length-take-le i y k in
      let a = bits-take i y b in (
        omega (arith, q.total-at i (omega arith), rw n at (total-most 1 (longest + 1) (take i y) a (omega arith))),
        omega (arith, q.count_at i (omega arith), ones-length (take i y) a),
      )

-- ---- the tables from a later place on
pub tables-later : (y : List ℕ) (p a : ℕ) (totals counts : List ℕ) → a ≤ length y → Tables y p totals counts
    → Tables (drop a y) (p + a) (drop a totals) (drop a counts)
tables-later y p a totals counts h t =
    let n = length-drop a y in
    let start = t.total-at a h in
    let counted = t.count_at a h in
    let first : a + 0 ≡ a = omega arith in
    let e = get_or-drop a totals 0 0 ∙ ap (λ (k : ℕ). get_or totals k 0) first in
    let f = get_or-drop a counts 0 0 ∙ ap (λ (k : ℕ). get_or counts k 0) first in
    record {
      totals_long = omega (arith, length-drop a totals, t.totals_long);
      counts-long = omega (arith, length-drop a counts, t.counts-long);
      total-at = λ j l. get_or-drop a totals j 0 ∙ t.total-at (a + j) (omega arith) ∙ omega (arith, split j, start, e);
      count_at = λ j l. get_or-drop a counts j 0 ∙ t.count_at (a + j) (omega arith) ∙ omega (arith, halves j, counted, f);
    }
  where
    split : (j : ℕ) → total (p + 1) (take (a + j) y) ≡ total (p + 1) (take a y) + total (p + a + 1) (take j (drop a y))
    split j =
        let k : p + 1 + length (take a y) ≡ p + a + 1 = omega (arith, length-take-le a y h) in
        ap (total (p + 1)) (take-add a j y)
        ∙ total-append (p + 1) (take a y) (take j (drop a y))
        ∙ ap (λ (q : ℕ). total (p + 1) (take a y) + total q (take j (drop a y))) k

    halves : (j : ℕ) → ones (take (a + j) y) ≡ ones (take a y) + ones (take j (drop a y))
    halves j = ap ones (take-add a j y) ∙ ones-append (take a y) (take j (drop a y))

-- what the tables give for the next w bits
pub record Next (y : List ℕ) (p w t0 tw c0 cw : ℕ) : Type 0 where
  pub below : p * (cw - c0) ≤ tw - t0
  pub sums : (tw - t0 - p * (cw - c0)) % (w + 1) ≡ sum (take w y)

pub next : (y : List ℕ) (p w : ℕ) (totals counts : List ℕ) → AllBits y → w ≤ length y → Tables y p totals counts
    → Next y p w (get_or totals 0 0) (get_or totals w 0) (get_or counts 0 0) (get_or counts w 0)
next y p w totals counts b h t =
    let high = t.total-at w h in
    let many = t.count_at w h in
    let k : get_or counts w 0 - get_or counts 0 0 ≡ ones (take w y) = omega arith in
    let d : get_or totals w 0 - get_or totals 0 0 ≡ total 1 (take w y) + p * ones (take w y) =
    omega (arith, total_on p (take w y)) in
    let long = length-take-le w y h in
    record {
      below = rw (k, d) (omega arith);
      sums = rw (k, d) (remainder (total 1 (take w y)) (p * ones (take w y)) ∙ is_sum);
    }
  where
    remainder : (a q : ℕ) → (a + q - q) % (w + 1) ≡ a % (w + 1)
    remainder a q =
        let e : a + q - q ≡ a = omega arith in
        ap (λ (v : ℕ). v % (w + 1)) e

    is_sum : total 1 (take w y) % (w + 1) ≡ sum (take w y)
    is_sum = unfold sum in ap (λ (n : ℕ). total 1 (take w y) % (n + 1)) (sym (length-take-le w y h))
