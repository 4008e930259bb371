-- A line around one of its chunks: its total changes just by what that chunk brings, and so its sum is known from the
-- line with a zero there. Assumes nothing.
use Prim.Native.Nat.{ℕ, zero, suc, ◌+◌, ◌-◌, ◌*◌, ◌%◌, ◌<◌, ◌≤◌}
use mathlib.Core.Path.{◌≡◌, refl, sym, ap, ◌∙◌}
use mathlib.Core.List.{List, ◌++◌}
use native.Mathlib.Nat.{mul-zero, zero-div, mod-add-mod, add-mul, eq_of_mul-eq-mul_right}
use native.Mathlib.Omega.{arith}
use lib.ListN.{length, get_or, set}
use lib.Seq.{get_or-set_same, get_or-set_other, set-get_or}
use Rattle.bits.specs.Bits.{digits}
use Rattle.bits.proofs.Laws.{length_digits}
use Rattle.vt.specs.Sum.{total, sum}
use Rattle.message.proofs.Positions.{total-append}
use Rattle.lines.specs.Lines.{line}
use Rattle.lines.proofs.Lines.{length-line, line_cons, line_split, line_same}
use Rattle.lines.proofs.Turns.{sum_of_total}

-- a zero brings nothing
pub total_zero : (k i : ℕ) → total i (digits k 0) ≡ 0
unfolding total digits
total_zero zero i = refl
total_zero (suc k) i = rw (zero-div, mul-zero) (omega (arith, total_zero k (suc i)))

module _ (nc start stride count t : ℕ) (h : t < count) where
  -- the chunks before it, the chunk and those behind it
  in_parts : (us : List ℕ)
      → total 1 (line nc start stride count us)
      ≡ total 1 (line nc start stride t us) + (total (t * nc + 1) (digits nc (get_or us (start + t * stride) 0))
      + total (t * nc + 1 + nc) (line nc (start + t * stride + stride) stride (count - (t + 1)) us))
  in_parts us =
      let rest : ℕ = count - (t + 1) in
      let e : count ≡ t + suc rest = omega arith in
      let front = line nc start stride t us in
      let d = digits nc (get_or us (start + t * stride) 0) in
      let back = line nc (start + t * stride + stride) stride rest us in
      let n : 1 + length front ≡ t * nc + 1 = omega (arith, length-line nc start stride t us) in
      let m : length d ≡ nc = length_digits nc (get_or us (start + t * stride) 0) in
      ap (λ (c : ℕ). total 1 (line nc start stride c us)) e
      ∙ ap (total 1)
      (line_split nc start stride t (suc rest) us
      ∙ ap (λ (v : List ℕ). front ++ v) (line_cons nc (start + t * stride) stride rest us))
      ∙ total-append 1 front (d ++ back)
      ∙ ap (λ (v : ℕ). total 1 front + v)
      (ap (λ (i : ℕ). total i (d ++ back)) n ∙ total-append (t * nc + 1) d back
      ∙ ap (λ (k : ℕ). total (t * nc + 1) d + total (t * nc + 1 + k) back) m)

  -- what a chunk brings is part of its line's total
  pub total-own : (us : List ℕ)
      → total (t * nc + 1) (digits nc (get_or us (start + t * stride) 0)) ≤ total 1 (line nc start stride count us)
  total-own us = omega (arith, in_parts us)

  -- lines that are alike but for chunk t
  pub total_but : (us vs : List ℕ)
      → ((i : ℕ) → i < count → (i ≡ t → ⊥) → get_or us (start + i * stride) 0 ≡ get_or vs (start + i * stride) 0)
      → total 1 (line nc start stride count us) + total (t * nc + 1) (digits nc (get_or vs (start + t * stride) 0))
      ≡ total 1 (line nc start stride count vs) + total (t * nc + 1) (digits nc (get_or us (start + t * stride) 0))
  total_but us vs same =
      let a = line_same nc start stride t us vs (λ i k. same i (omega arith) (λ e. omega arith)) in
      let b = line_same nc (start + t * stride + stride) stride (count - (t + 1)) us vs behind in
      omega (arith, in_parts us, in_parts vs, ap (total 1) a, ap (total (t * nc + 1 + nc)) b)
    where
      behind : (i : ℕ) → i < count - (t + 1)
          → get_or us (start + t * stride + stride + i * stride) 0 ≡ get_or vs (start + t * stride + stride + i * stride) 0
      behind i k =
          let e : start + (t + 1 + i) * stride ≡ start + t * stride + stride + i * stride =
          omega (arith, add-mul (t + 1) i stride, add-mul t 1 stride)
          in
          rw e at (same (t + 1 + i) (omega arith) (λ q. omega arith))

  module _ (vs : List ℕ) (s : 0 < stride) (g : start + t * stride < length vs) where
    -- lines in which chunk t alone is put anew
    alike : (u v i : ℕ) → i < count → (i ≡ t → ⊥)
        → get_or (set vs (start + t * stride) u) (start + i * stride) 0
        ≡ get_or (set vs (start + t * stride) v) (start + i * stride) 0
    alike u v i k n =
        get_or-set_other vs (start + t * stride) (start + i * stride) u 0 other
        ∙ sym (get_or-set_other vs (start + t * stride) (start + i * stride) v 0 other)
      where
        other : start + i * stride ≡ start + t * stride → ⊥
        other e = n (eq_of_mul-eq-mul_right stride s i t (omega arith))

    -- the total of a line with v as chunk t, from that of the line with a zero there
    total-set : (v : ℕ)
        → total 1 (line nc start stride count (set vs (start + t * stride) v))
        ≡ total 1 (line nc start stride count (set vs (start + t * stride) 0)) + total (t * nc + 1) (digits nc v)
    total-set v =
        let at : ℕ = start + t * stride in
        let both = total_but (set vs at v) (set vs at 0) (alike v 0) in
        omega (arith, rw (get_or-set_same vs at 0 0 g, get_or-set_same vs at v 0 g, total_zero nc (t * nc + 1)) at both)

    -- what chunk t leaves of the total of its line gives the sum of the line with a zero there
    pub sum-rest : (whole own : ℕ) → whole ≡ total 1 (line nc start stride count vs)
        → own ≡ total (t * nc + 1) (digits nc (get_or vs (start + t * stride) 0))
        → (own ≤ whole) × ((whole - own) % (count * nc + 1)
        ≡ sum (line nc start stride count (set vs (start + t * stride) 0)))
    sum-rest whole own e f =
        let at : ℕ = start + t * stride in
        let bare : List ℕ = set vs at 0 in
        let same = ap (λ (us : List ℕ). total 1 (line nc start stride count us)) (set-get_or vs at 0) in
        let both : whole ≡ total 1 (line nc start stride count bare) + own = omega (arith, total-set (get_or vs at 0)) in (
          omega arith,
          ap (λ (n : ℕ). n % (count * nc + 1)) {y = total 1 (line nc start stride count bare)} (omega arith)
              ∙ sum_of_total nc start stride count bare,
        )

    -- the sum of a line with v as chunk t, from the sum of the line with a zero there
    pub sum-set : (v : ℕ)
        → (sum (line nc start stride count (set vs (start + t * stride) 0)) + total (t * nc + 1) (digits nc v))
        % (count * nc + 1)
        ≡ sum (line nc start stride count (set vs (start + t * stride) v))
    sum-set v =
        let at : ℕ = start + t * stride in
        let m : ℕ = count * nc + 1 in
        let bare : List ℕ = set vs at 0 in
        let b : ℕ = total (t * nc + 1) (digits nc v) in
        ap (λ (n : ℕ). (n + b) % m) (sym (sum_of_total nc start stride count bare))
        ∙ mod-add-mod (total 1 (line nc start stride count bare)) m b
        ∙ ap (λ (n : ℕ). n % m) (sym (total-set v))
        ∙ sum_of_total nc start stride count (set vs at v)
