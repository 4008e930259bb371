-- The logs that the table gives: what stands in a list filled with them. Assumes nothing.
use Prim.Native.Nat.{ℕ, zero, suc, ◌+◌, ◌-◌, ◌^◌, ◌<◌, ◌≤◌}
use mathlib.Core.Path.{◌≡◌, refl, sym, ap, ◌∙◌}
use mathlib.Core.List.{List}
use native.Mathlib.Decide.{dec_lt}
use native.Mathlib.Nat.{not-suc-le-zero}
use native.Mathlib.Numerals.{add-one}
use native.Mathlib.Omega.{arith}
use lib.ListN.{length, get_or, set, length-set}
use lib.Seq.{get_or-set_same, get_or-set_other}
use Rattle.field.specs.Field.{Element, power}
use Rattle.field.specs.Tables.{with_logs, Logs}
use Rattle.field.proofs.Double.{power_element}
use Rattle.field.proofs.Generator.{log_exists, log_unique}

pub length-with_logs : (nc k : ℕ) (xs : List ℕ) → length (with_logs nc k xs) ≡ length xs
unfolding with_logs
length-with_logs nc zero xs = refl
length-with_logs nc (suc e) xs = length-set (with_logs nc e xs) (power nc e) e ∙ length-with_logs nc e xs

pub logs_none : (nc : ℕ) (xs : List ℕ) → xs ≡ with_logs nc 0 xs
unfolding with_logs
logs_none nc xs = refl

pub logs_more : (nc e : ℕ) (xs : List ℕ) → set (with_logs nc e xs) (power nc e) e ≡ with_logs nc (e + 1) xs
unfolding with_logs
logs_more nc e xs = ap (λ (k : ℕ). with_logs nc k xs) (sym (add-one e))

module _ (nc : ℕ) (lo : 3 ≤ nc) (hi : nc ≤ 8) (xs : List ℕ) (long : 2 ^ nc ≤ length xs) where
  log-at : (k d : ℕ) → k < 2 ^ nc → d < k → get_or (with_logs nc k xs) (power nc d) 0 ≡ d
  unfolding with_logs
  log-at zero d h l = absurd (not-suc-le-zero l)
  log-at (suc e) d h l = go (dec_lt d e) (log-at e d (omega arith))
    where
      go : Dec (d < e) → (d < e → get_or (with_logs nc e xs) (power nc d) 0 ≡ d)
          → get_or (with_logs nc (suc e) xs) (power nc d) 0 ≡ d
      go (yes m) below =
          get_or-set_other (with_logs nc e xs) (power nc e) (power nc d) e 0
          (λ s. omega (arith, log_unique nc lo hi d e (omega arith) (omega arith) s)) ∙ below m
      go (no n) below =
          let same : d ≡ e = omega arith in
          ap (λ (j : ℕ). get_or (with_logs nc (suc e) xs) (power nc j) 0) same
          ∙ get_or-set_same (with_logs nc e xs) (power nc e) e 0
          (omega (arith, power_element nc lo hi e, length-with_logs nc e xs)) ∙ sym same

  -- all logs, and the one of x
  filled : List ℕ
  filled = with_logs nc (2 ^ nc - 1) xs

  log-of : (x : ℕ) → 0 < x → Element nc x → (get_or filled x 0 + 1 < 2 ^ nc) × (power nc (get_or filled x 0) ≡ x)
  unfolding filled
  log-of x p h =
      let r = log_exists nc lo hi x p h in
      let e = ap (λ (n : ℕ). get_or filled n 0) (sym r.2) ∙ log-at (2 ^ nc - 1) r.0 (omega arith) (omega arith) in
      (omega arith, ap (power nc) e ∙ r.2)

  pub logs_filled : Logs nc (with_logs nc (2 ^ nc - 1) xs)
  unfolding filled
  logs_filled =
      record {
        long = omega (arith, length-with_logs nc (2 ^ nc - 1) xs);
        low = λ x p h. (log-of x p h).0;
        log = λ x p h. (log-of x p h).1;
      }
