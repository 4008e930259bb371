-- The anchor's law: two rows of one layout with the same first r checks that differ in at most r chunks are equal.
-- Assumes nothing.
use Prim.Native.Nat.{ℕ, zero, suc, ◌+◌, ◌*◌, ◌^◌, ◌<◌, ◌≤◌}
use mathlib.Core.Path.{◌≡◌, refl, sym, ap, ap₂, ◌∙◌}
use mathlib.Core.Bool.{Bool, true, false, cond}
use mathlib.Core.List.{List, [], ◌∷◌}
use mathlib.Core.Logic.{◌⊎◌, inl, inr}
use native.Mathlib.Decide.{ℕ_discrete}
use native.Mathlib.Nat.{zero-mul}
use native.Mathlib.Omega.{arith}
use borrow.Author.Tests.{eq-eqb, ne_eqb}
use lib.Bits.{bit_xor, xor_self, xor_zero_l, xor_zero_r, xor_lt}
use lib.Dec.{eqb, eqb-suc-zero}
use lib.ListN.{length, get_or}
use Rattle.bits.proofs.Laws.{lt_or_ge}
use Rattle.field.specs.Field.{Element, Elements, power, times, check, check_from}
use Rattle.field.specs.Linear.{xor_each}
use Rattle.field.proofs.Double.{power_element}
use Rattle.field.proofs.Generator.{log_unique, times_nonzero}
use Rattle.field.proofs.Linear.{length-xor_each, xor_each_elements, check_from_element, check_linear}
use Rattle.field.proofs.Times.{times_zero, times_of_zero, times_element, times_of_xor, times-one}
use Rattle.field.proofs.Xor.{xor_cross, xor_same}
use Rattle.erasures.specs.Erasures.{weight}
use Rattle.erasures.proofs.Erasures.{other-term}

-- each chunk from chunk c on times the sum of its own power and that of chunk p
unfoldable scaled_from : (nc p c : ℕ) → List ℕ → List ℕ
scaled_from nc p c [] = []
scaled_from nc p c (e ∷ es) = times nc (bit_xor (power nc c) (power nc p)) e ∷ scaled_from nc p (suc c) es

tail_elements : (nc e : ℕ) (es : List ℕ) → Elements nc (e ∷ es) → Elements nc es
tail_elements nc e es h k = h (suc k)

-- a chunk in front, which stays 0 if it was
head-weight : (m x t a b : ℕ) → (x ≡ 0 → t ≡ 0) → m + a ≤ b → m + (cond (eqb t 0) 0 1 + a) ≤ cond (eqb x 0) 0 1 + b
head-weight m x t a b f h = go (ℕ_discrete x 0)
  where
    go : Dec (x ≡ 0) → m + (cond (eqb t 0) 0 1 + a) ≤ cond (eqb x 0) 0 1 + b
    go (yes z) = rw (eq-eqb t 0 (f z), eq-eqb x 0 z) (omega arith)
    go (no n) = rw (ne_eqb x 0 n) (small (eqb t 0))
      where
        small : (c : Bool) → m + (cond c 0 1 + a) ≤ 1 + b
        small true = omega arith
        small false = omega arith

-- past its end a list has 0
get_d_past : (es : List ℕ) (k d : ℕ) → length es ≤ k → get_or es k d ≡ d
get_d_past [] k d h = refl
get_d_past (e ∷ es) zero d h = absurd (omega arith)
get_d_past (e ∷ es) (suc k) d h = get_d_past es k d (omega arith)

-- lists that differ nowhere are equal
each_same : (xs zs : List ℕ) → length xs ≡ length zs → ((k : ℕ) → k < length xs → get_or (xor_each xs zs) k 0 ≡ 0) → xs ≡ zs
unfolding xor_each
each_same [] [] n h = refl
each_same [] (z ∷ zs) n h = absurd (omega arith)
each_same (x ∷ xs) [] n h = absurd (omega arith)
each_same (x ∷ xs) (z ∷ zs) n h =
    ap₂ (λ (a : ℕ) (b : List ℕ). a ∷ b) (xor_same x z (h 0 (omega arith)))
    (each_same xs zs (omega arith) (λ k q. h (suc k) (omega arith)))

-- chunks of weight 0 are 0
light : (es : List ℕ) (k : ℕ) → weight es ≤ 0 → get_or es k 0 ≡ 0
unfolding weight
light [] k h = refl
light (zero ∷ es) zero h = refl
light (zero ∷ es) (suc k) h = light es k (omega arith)
light (suc e ∷ es) k h = absurd (omega (arith, rw (eqb-suc-zero e) at h))

module _ (nc : ℕ) (lo : 3 ≤ nc) (hi : nc ≤ 8) where
  -- what is left of the checks when chunk p is taken out
  check-scaled : (i p c : ℕ) (es : List ℕ) → Elements nc es
      → check_from nc i c (scaled_from nc p c es)
      ≡ bit_xor (check_from nc (suc i) c es) (times nc (power nc p) (check_from nc i c es))
  unfolding check_from scaled_from
  check-scaled i p c [] h = sym (ap (bit_xor 0) (times_of_zero nc (power nc p)))
  check-scaled i p c (e ∷ es) h =
      let g : ℕ = power nc p in
      let a : ℕ = times nc (power nc (suc i * c)) e in
      let t : ℕ = times nc (power nc (i * c)) e in
      let b : ℕ = check_from nc (suc i) (suc c) es in
      let d : ℕ = check_from nc i (suc c) es in
      sym (ap (bit_xor (bit_xor a b))
      (times_of_xor nc lo hi g t d (times_element nc lo hi (power nc (i * c)) e (h 0))
      (check_from_element nc lo hi i (suc c) es (tail_elements nc e es h)))
      ∙ xor_cross a b (times nc g t) (times nc g d)
      ∙ ap₂ bit_xor (other-term nc lo hi i p c e (h 0)) (sym (check-scaled i p (suc c) es (tail_elements nc e es h))))

  scaled-elements : (p c : ℕ) (es : List ℕ) → Elements nc es → Elements nc (scaled_from nc p c es)
  unfolding scaled_from
  scaled-elements p c [] h k = h k
  scaled-elements p c (e ∷ es) h zero = times_element nc lo hi (bit_xor (power nc c) (power nc p)) e (h 0)
  scaled-elements p c (e ∷ es) h (suc k) = scaled-elements p (suc c) es (tail_elements nc e es h) k

  length-scaled : (p c : ℕ) (es : List ℕ) → length (scaled_from nc p c es) ≡ length es
  unfolding scaled_from
  length-scaled p c [] = refl
  length-scaled p c (e ∷ es) = ap suc (length-scaled p (suc c) es)

  scaled_at : (p c k : ℕ) (es : List ℕ)
      → get_or (scaled_from nc p c es) k 0 ≡ times nc (bit_xor (power nc (c + k)) (power nc p)) (get_or es k 0)
  unfolding scaled_from
  scaled_at p c k [] = sym (times_of_zero nc (bit_xor (power nc (c + k)) (power nc p)))
  scaled_at p c zero (e ∷ es) = ap (λ (m : ℕ). times nc (bit_xor (power nc m) (power nc p)) e) (omega arith)
  scaled_at p c (suc k) (e ∷ es) =
      scaled_at p (suc c) k es ∙ ap (λ (m : ℕ). times nc (bit_xor (power nc m) (power nc p)) (get_or es k 0)) (omega arith)

  zero-scaled : (s e : ℕ) → e ≡ 0 → times nc s e ≡ 0
  zero-scaled s e z = ap (times nc s) z ∙ times_of_zero nc s

  -- no chunk that was 0 is anything else afterwards
  weight_scaled : (p c : ℕ) (es : List ℕ) → weight (scaled_from nc p c es) ≤ weight es
  unfolding weight scaled_from
  weight_scaled p c [] = omega arith
  weight_scaled p c (e ∷ es) =
      let s : ℕ = bit_xor (power nc c) (power nc p) in
      omega (
        arith,
        head-weight 0 e (times nc s e) (weight (scaled_from nc p (suc c) es)) (weight es) (zero-scaled s e)
            (omega (arith, weight_scaled p (suc c) es)),
      )

  -- chunk p is 0 afterwards
  weight-falls : (p c k : ℕ) (es : List ℕ) → p ≡ c + k → 0 < get_or es k 0 → weight (scaled_from nc p c es) < weight es
  unfolding weight scaled_from
  weight-falls p c k [] e h = absurd (omega arith)
  weight-falls p c zero (x ∷ es) e h =
      let same : c ≡ p = omega arith in
      let t : times nc (bit_xor (power nc c) (power nc p)) x ≡ 0 =
      ap (λ (m : ℕ). times nc (bit_xor (power nc m) (power nc p)) x) same
      ∙ ap (λ (m : ℕ). times nc m x) (xor_self (power nc p)) ∙ times_zero nc x
      in
      rw (eq-eqb (times nc (bit_xor (power nc c) (power nc p)) x) 0 t, ne_eqb x 0 (λ z. omega arith))
      (omega (arith, weight_scaled p (suc c) es))
  weight-falls p c (suc k) (x ∷ es) e h =
      let s : ℕ = bit_xor (power nc c) (power nc p) in
      let r = weight-falls p (suc c) k es (omega arith) h in
      omega (
        arith,
        head-weight 1 x (times nc s x) (weight (scaled_from nc p (suc c) es)) (weight es) (zero-scaled s x) (omega arith),
      )

  -- a chunk other than p that is 0 afterwards was 0
  zero-back : (p q x : ℕ) → p + 1 < 2 ^ nc → q + 1 < 2 ^ nc → (q ≡ p → ⊥) → Element nc x
      → times nc (bit_xor (power nc q) (power nc p)) x ≡ 0 → x ≡ 0
  zero-back p q x hp hq ne hx z =
      let d : ℕ = bit_xor (power nc q) (power nc p) in
      let hd : Element nc d = xor_lt nc (power nc q) (power nc p) (power_element nc lo hi q) (power_element nc lo hi p) in
      let apart : d ≡ 0 → ⊥ = λ s. ne (log_unique nc lo hi q p hq hp (xor_same (power nc q) (power nc p) s)) in
      let pos : 0 < d = omega arith in
      go (ℕ_discrete x 0) (λ px. times_nonzero nc lo hi d x hd hx pos px)
    where
      go : Dec (x ≡ 0) → (0 < x → 0 < times nc (bit_xor (power nc q) (power nc p)) x) → x ≡ 0
      go (yes e) f = e
      go (no n) f = absurd (omega (arith, f (omega arith)))

  -- where one chunk only is not 0, the first check is that chunk
  only_one : (c k : ℕ) (es : List ℕ) → ((q : ℕ) → (q ≡ k → ⊥) → get_or es q 0 ≡ 0) → check_from nc 0 c es ≡ get_or es k 0
  unfolding check_from power
  only_one c k [] h = refl
  only_one c zero (e ∷ es) h =
      let own : times nc (power nc (0 * c)) e ≡ e =
      ap (λ (m : ℕ). times nc (power nc m) e) (zero-mul c) ∙ times-one nc lo hi e in
      let rest : check_from nc 0 (suc c) es ≡ 0 =
      only_one (suc c) 0 es (λ q n. h (suc q) (λ z. omega arith)) ∙ h 1 (λ z. omega arith) in
      ap₂ bit_xor own rest ∙ xor_zero_r e
  only_one c (suc k) (e ∷ es) h =
      ap₂ bit_xor (zero-scaled (power nc (0 * c)) e (h 0 (λ z. omega arith)))
      (only_one (suc c) k es (λ q n. h (suc q) (λ z. n (omega arith))))
      ∙ xor_zero_l (get_or es k 0)

  -- chunks that bring nothing to r checks, of which at most r are not 0, are all 0: a chunk that is not 0 is taken out,
  -- the others are 0 then, and so were before; so the first check is that chunk
  all-zero : (r : ℕ) (es : List ℕ) → length es < 2 ^ nc → Elements nc es → weight es ≤ r
      → ((i : ℕ) → i < r → check_from nc i 0 es ≡ 0) → (k : ℕ) → k < length es → get_or es k 0 ≡ 0
  all-zero zero es l h w z k b = light es k w
  all-zero (suc r) es l h w z k b =
      go (ℕ_discrete (get_or es k 0) 0)
      (λ pos. all-zero r (scaled_from nc k 0 es) (omega (arith, length-scaled k 0 es)) (scaled-elements k 0 es h)
      (omega (arith, weight-falls k 0 k es (omega arith) pos))
      (λ i q. check-scaled i k 0 es h
      ∙ ap₂ (λ (s t : ℕ). bit_xor s (times nc (power nc k) t)) (z (suc i) (omega arith)) (z i (omega arith))
      ∙ ap (bit_xor 0) (times_of_zero nc (power nc k))))
    where
      go : Dec (get_or es k 0 ≡ 0)
          → (0 < get_or es k 0 → (q : ℕ) → q < length (scaled_from nc k 0 es) → get_or (scaled_from nc k 0 es) q 0 ≡ 0)
          → get_or es k 0 ≡ 0
      go (yes e) f = e
      go (no n) f =
          let others : (q : ℕ) → (q ≡ k → ⊥) → get_or es q 0 ≡ 0 = λ q ne. within (lt_or_ge q (length es)) ne in
          sym (only_one 0 k es others) ∙ z 0 (omega arith)
        where
          within : {q : ℕ} → (q < length es) ⊎ (length es ≤ q) → (q ≡ k → ⊥) → get_or es q 0 ≡ 0
          within {q} (inl i) ne =
              zero-back k q (get_or es q 0) (omega arith) (omega arith) ne (h q)
              (ap (λ (m : ℕ). times nc (bit_xor (power nc m) (power nc k)) (get_or es q 0)) (omega arith)
              ∙ sym (scaled_at k 0 q es) ∙ f (omega arith) q (omega (arith, length-scaled k 0 es)))
          within {q} (inr o) ne = get_d_past es q 0 o

  -- two rows with the same first r checks that differ in at most r chunks are equal
  pub same_row : (r : ℕ) (xs zs : List ℕ) → length xs ≡ length zs → length xs < 2 ^ nc → Elements nc xs → Elements nc zs
      → weight (xor_each xs zs) ≤ r → ((i : ℕ) → i < r → check nc i xs ≡ check nc i zs) → xs ≡ zs
  unfolding check
  same_row r xs zs n l hx hz w e =
      let long = length-xor_each xs zs n in
      let all = all-zero r (xor_each xs zs) (omega arith) (xor_each_elements nc xs zs hx hz) w
      (λ i q. (check_linear nc lo hi i).over-xor 0 xs zs n hx hz ∙ ap (λ (t : ℕ). bit_xor t (check_from nc i 0 zs)) (e i q)
      ∙ xor_self (check_from nc i 0 zs)) in
      each_same xs zs n (λ k q. all k (omega arith))
