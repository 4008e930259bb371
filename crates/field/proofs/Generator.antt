-- 2 generates each field: every element but 0 is a power of 2, and of one exponent only; so what holds of the powers
-- holds of the elements. Assumes nothing.
use Prim.Native.Nat.{ℕ, zero, suc, ◌+◌, ◌-◌, ◌^◌, ◌<◌, ◌≤◌}
use mathlib.Core.Path.{◌≡◌, sym, ap, ap₂, ◌∙◌, subst}
use mathlib.Core.Bool.{not}
use native.Mathlib.Decide.{dec_lt}
use native.Mathlib.Nat.{add-zero}
use native.Mathlib.Omega.{arith}
use lib.Dec.{T, T_not}
use Rattle.field.specs.Field.{Element, double, power, times}
use Rattle.field.specs.Tables.{doubles}
use Rattle.field.proofs.Among.{has, has_at, at_has, all_in, all_in_has}
use Rattle.field.proofs.Double.{each, power_element, power_nonzero}
use Rattle.field.proofs.Powers.{doubles-at, length-doubles, powers-at}
use Rattle.field.proofs.Times.{times_element, times_zero, times_of_zero, times-one, times_of_double, double-times, times_power, power-order, power_period}

module _ (nc : ℕ) (lo : 3 ≤ nc) (hi : nc ≤ 8) where
  -- every element but 0 is among the powers, computed
  all-powers : T (all_in (2 ^ nc - 1) (doubles nc 1 (2 ^ nc - 1)))
  unfolding all_in doubles
  all-powers = each (λ (n : ℕ). T (all_in (2 ^ n - 1) (doubles n 1 (2 ^ n - 1)))) tt tt tt tt tt tt nc lo hi

  -- 1 is not among them after the first, computed
  one-once : T (not (has 1 (doubles nc (power nc 1) (2 ^ nc - 2))))
  unfolding has doubles power
  one-once = each (λ (n : ℕ). T (not (has 1 (doubles n (power n 1) (2 ^ n - 2))))) tt tt tt tt tt tt nc lo hi

  -- every element but 0 is a power of 2
  pub log_exists : (x : ℕ) → 0 < x → Element nc x → (e : ℕ) × (e + 1 < 2 ^ nc) × (power nc e ≡ x)
  log_exists x p h =
      let n : ℕ = 2 ^ nc - 1 in
      let r = has_at x (doubles nc 1 n) (all_in_has n (doubles nc 1 n) all-powers x p (omega arith)) in
      let l : r.0 + 1 < 2 ^ nc = omega (arith, length-doubles nc 1 n) in
      (r.0, l, sym (powers-at nc r.0 l) ∙ r.2)

  -- the quotient of two equal powers
  power-quotient : (d e : ℕ) → d < e → e + 1 < 2 ^ nc → power nc d ≡ power nc e → power nc (e - d) ≡ 1
  power-quotient d e l h s =
      let n : ℕ = 2 ^ nc - 1 in
      let up : n + (e - d) ≡ n - d + e = omega arith in
      let down : n - d + d ≡ n = omega arith in
      sym (power_period nc lo hi (e - d)) ∙ ap (power nc) up ∙ sym (times_power nc lo hi (n - d) e)
      ∙ ap (times nc (power nc (n - d))) (sym s) ∙ times_power nc lo hi (n - d) d ∙ ap (power nc) down
      ∙ power-order nc lo hi

  power-distinct : (d e : ℕ) → d < e → e + 1 < 2 ^ nc → power nc d ≡ power nc e → ⊥
  power-distinct d e l h s =
      let k : ℕ = 2 ^ nc - 2 in
      let j : ℕ = e - d - 1 in
      let m : 1 + j ≡ e - d = omega arith in
      let later = doubles nc (power nc 1) k in
      let one = doubles-at nc 1 k j (omega arith) ∙ ap (power nc) m ∙ power-quotient d e l h s in
      T_not (has 1 later) one-once (at_has 1 later j (rw (length-doubles nc (power nc 1) k) (omega arith)) one)

  -- of one exponent only
  pub log_unique : (d e : ℕ) → d + 1 < 2 ^ nc → e + 1 < 2 ^ nc → power nc d ≡ power nc e → d ≡ e
  log_unique d e hd he s = go (dec_lt d e) (dec_lt e d)
    where
      go : Dec (d < e) → Dec (e < d) → d ≡ e
      go (yes l) m = absurd (power-distinct d e l he s)
      go (no n) (yes l) = absurd (power-distinct e d l hd (sym s))
      go (no n) (no m) = omega arith

  -- ---- the product through the powers

  -- what holds of 0 and of each power holds of each element
  pub by_powers : (P : ℕ → Type 0) → P 0 → ((e : ℕ) → P (power nc e)) → (x : ℕ) → Element nc x → P x
  by_powers P z f zero h = z
  by_powers P z f (suc x) h =
      let r = log_exists (suc x) (omega arith) h in
      subst P r.2 (f r.0)

  pub times_nonzero : (a b : ℕ) → Element nc a → Element nc b → 0 < a → 0 < b → 0 < times nc a b
  times_nonzero a b ha hb pa pb =
      let r = log_exists a pa ha in
      let s = log_exists b pb hb in
      let e : power nc (r.0 + s.0) ≡ times nc a b =
      sym (times_power nc lo hi r.0 s.0) ∙ ap₂ (times nc) r.2 s.2 in
      let n : times nc a b ≡ 0 → ⊥ = λ z. power_nonzero nc lo hi (r.0 + s.0) (e ∙ z) in
      omega arith

  pub times_of_one : (a : ℕ) → Element nc a → times nc a 1 ≡ a
  unfolding power
  times_of_one =
      by_powers (λ (x : ℕ). times nc x 1 ≡ x) (times_zero nc 1)
      (λ e. times_power nc lo hi e 0 ∙ ap (power nc) (add-zero e))

  power-comm : (d b : ℕ) → Element nc b → times nc (power nc d) b ≡ times nc b (power nc d)
  unfolding power
  power-comm zero b hb = times-one nc lo hi b ∙ sym (times_of_one b hb)
  power-comm (suc d) b hb =
      let p = power nc d in
      let hp = power_element nc lo hi d in
      double-times nc lo hi p b hp hb ∙ ap (double nc) (power-comm d b hb) ∙ sym (times_of_double nc lo hi b p hp)

  pub times_comm : (a b : ℕ) → Element nc a → Element nc b → times nc a b ≡ times nc b a
  times_comm a b ha hb =
      by_powers (λ (x : ℕ). times nc x b ≡ times nc b x) (times_zero nc b ∙ sym (times_of_zero nc b))
      (λ d. power-comm d b hb) a ha

  power-assoc : (d b c : ℕ) → Element nc b → Element nc c
      → times nc (times nc (power nc d) b) c ≡ times nc (power nc d) (times nc b c)
  unfolding power
  power-assoc zero b c hb hc =
      ap (λ (n : ℕ). times nc n c) (times-one nc lo hi b) ∙ sym (times-one nc lo hi (times nc b c))
  power-assoc (suc d) b c hb hc =
      let p = power nc d in
      let hp = power_element nc lo hi d in
      ap (λ (n : ℕ). times nc n c) (double-times nc lo hi p b hp hb)
      ∙ double-times nc lo hi (times nc p b) c (times_element nc lo hi p b hb) hc
      ∙ ap (double nc) (power-assoc d b c hb hc)
      ∙ sym (double-times nc lo hi p (times nc b c) hp (times_element nc lo hi b c hc))

  pub times_assoc : (a b c : ℕ) → Element nc a → Element nc b → Element nc c
      → times nc (times nc a b) c ≡ times nc a (times nc b c)
  times_assoc a b c ha hb hc =
      by_powers (λ (x : ℕ). times nc (times nc x b) c ≡ times nc x (times nc b c))
      (ap (λ (n : ℕ). times nc n c) (times_zero nc b) ∙ times_zero nc c ∙ sym (times_zero nc (times nc b c)))
      (λ d. power-assoc d b c hb hc) a ha
