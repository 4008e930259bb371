-- What erased chunks bring to the checks of a row, and the row with their contents put in. Assumes nothing.
use Prim.Native.Nat.{ℕ, zero, suc, ◌+◌, ◌*◌, ◌<◌, ◌≤◌}
use mathlib.Core.Path.{◌≡◌, refl, sym, ap, ap₂, ◌∙◌}
use mathlib.Core.List.{List, [], ◌∷◌}
use native.Mathlib.Decide.{ℕ_discrete}
use native.Mathlib.Nat.{add-zero}
use native.Mathlib.Omega.{arith}
use lib.Bits.{bit_xor, xor_comm, xor_zero_l, xor_zero_r}
use lib.ListN.{length, get_or, set, length-set}
use lib.Seq.{get_or-set_same, get_or-set_other}
use Rattle.field.specs.Field.{power, times, check, check_from}
use Rattle.field.proofs.Times.{times_of_zero}
use Rattle.field.proofs.Xor.{xor_assoc}
use Rattle.erasures.specs.Erasures.{brought}

-- ---- one chunk put in
module _ (nc i : ℕ) where
  from-set : (c k v : ℕ) (xs : List ℕ) → k < length xs → get_or xs k 0 ≡ 0
      → check_from nc i c (set xs k v) ≡ bit_xor (check_from nc i c xs) (times nc (power nc (i * (c + k))) v)
  unfolding check_from
  from-set c k v [] h z = absurd (omega arith)
  from-set c zero v (x ∷ xs) h z =
      let t : ℕ = times nc (power nc (i * c)) v in
      let r : ℕ = check_from nc i (suc c) xs in
      let e : times nc (power nc (i * (c + 0))) v ≡ t = ap (λ (m : ℕ). times nc (power nc (i * m)) v) (add-zero c) in
      let o : bit_xor (times nc (power nc (i * c)) x) r ≡ r =
      ap (λ (m : ℕ). bit_xor (times nc (power nc (i * c)) m) r) z
      ∙ ap (λ (m : ℕ). bit_xor m r) (times_of_zero nc (power nc (i * c)))
      ∙ xor_zero_l r
      in
      xor_comm t r ∙ ap₂ bit_xor (sym o) (sym e)
  from-set c (suc k) v (x ∷ xs) h z =
      let t : ℕ = times nc (power nc (i * c)) x in
      let r : ℕ = check_from nc i (suc c) xs in
      let e : suc c + k ≡ c + suc k = omega arith in
      ap (bit_xor t) (from-set (suc c) k v xs (omega arith) z)
      ∙ sym (xor_assoc t r (times nc (power nc (i * (suc c + k))) v))
      ∙ ap (λ (m : ℕ). bit_xor (bit_xor t r) (times nc (power nc (i * m)) v)) e

  -- a chunk v put where 0 stands adds its term to a check
  check-set : (k v : ℕ) (xs : List ℕ) → k < length xs → get_or xs k 0 ≡ 0
      → check nc i (set xs k v) ≡ bit_xor (check nc i xs) (times nc (power nc (i * k)) v)
  unfolding check
  check-set k v xs h z =
      from-set 0 k v xs h z ∙ ap (λ (m : ℕ). bit_xor (check_from nc i 0 xs) (times nc (power nc (i * m)) v)) (omega arith)

-- ---- all of them put in
-- k chunks from the u-th on put in: chunk e of each at its place c
unfoldable pub filled : (c e : ℕ → ℕ) (u k : ℕ) → List ℕ → List ℕ
filled c e u zero xs = xs
filled c e u (suc k) xs = set (filled c e (suc u) k xs) (c u) (e u)

module _ (c e : ℕ → ℕ) (xs : List ℕ) where
  pub length-filled : (u k : ℕ) → length (filled c e u k xs) ≡ length xs
  unfolding filled
  length-filled u zero = refl
  length-filled u (suc k) = length-set (filled c e (suc u) k xs) (c u) (e u) ∙ length-filled (suc u) k

  -- elsewhere nothing changes
  pub filled-other : (u k p : ℕ) → ((w : ℕ) → u ≤ w → w < u + k → p ≡ c w → ⊥)
      → get_or (filled c e u k xs) p 0 ≡ get_or xs p 0
  unfolding filled
  filled-other u zero p h = refl
  filled-other u (suc k) p h =
      get_or-set_other (filled c e (suc u) k xs) (c u) p (e u) 0 (h u (omega arith) (omega arith))
      ∙ filled-other (suc u) k p (λ w a b. h w (omega arith) (omega arith))

  -- each stands at its place
  pub filled-there : (u k w : ℕ) → u ≤ w → w < u + k → ((v : ℕ) → v < u + k → c v < length xs)
      → ((v w : ℕ) → v < u + k → w < u + k → c v ≡ c w → v ≡ w) → get_or (filled c e u k xs) (c w) 0 ≡ e w
  unfolding filled
  filled-there u zero w a b h d = absurd (omega arith)
  filled-there u (suc k) w a b h d =
      go (ℕ_discrete w u)
      (λ l. filled-there (suc u) k w l (omega arith) (λ v q. h v (omega arith))
      (λ v x p q. d v x (omega arith) (omega arith)))
    where
      go : Dec (w ≡ u) → (suc u ≤ w → get_or (filled c e (suc u) k xs) (c w) 0 ≡ e w)
          → get_or (set (filled c e (suc u) k xs) (c u) (e u)) (c w) 0 ≡ e w
      go (yes s) r =
          let low : c u < length (filled c e (suc u) k xs) = omega (arith, h u (omega arith), length-filled (suc u) k) in
          rw s (get_or-set_same (filled c e (suc u) k xs) (c u) (e u) 0 low)
      go (no n) r =
          get_or-set_other (filled c e (suc u) k xs) (c u) (c w) (e u) 0 (λ s. n (d w u b (omega arith) s))
          ∙ r (omega arith)

  -- a check of the row with the chunks put in where 0 stood is that of the row and what they bring
  pub check-filled : (nc i u k : ℕ) → ((v : ℕ) → v < u + k → c v < length xs)
      → ((v : ℕ) → v < u + k → get_or xs (c v) 0 ≡ 0) → ((v w : ℕ) → v < u + k → w < u + k → c v ≡ c w → v ≡ w)
      → check nc i (filled c e u k xs) ≡ bit_xor (check nc i xs) (brought nc i c e u k)
  unfolding filled brought
  check-filled nc i u zero h z d = sym (xor_zero_r (check nc i xs))
  check-filled nc i u (suc k) h z d =
      let t : ℕ = times nc (power nc (i * c u)) (e u) in
      let b : ℕ = brought nc i c e (suc u) k in
      let blank : get_or (filled c e (suc u) k xs) (c u) 0 ≡ 0 =
      filled-other (suc u) k (c u) (λ w p q s. omega (arith, d u w (omega arith) (omega arith) s)) ∙ z u (omega arith)
      in
      let low : c u < length (filled c e (suc u) k xs) = omega (arith, h u (omega arith), length-filled (suc u) k) in
      let others = check-filled nc i (suc u) k (λ v q. h v (omega arith)) (λ v q. z v (omega arith))
      (λ v w p q. d v w (omega arith) (omega arith)) in
      check-set nc i (c u) (e u) (filled c e (suc u) k xs) low blank
      ∙ ap (λ (m : ℕ). bit_xor m t) others
      ∙ xor_assoc (check nc i xs) b t
      ∙ ap (bit_xor (check nc i xs)) (xor_comm b t)
