-- The terms of the checks, given by exponents: listed chunk by chunk, one check's made the next one's, and their sum.
-- Assumes nothing.
use Prim.Native.Nat.{ℕ, zero, suc, ◌+◌, ◌-◌, ◌*◌, ◌^◌, ◌<◌, ◌≤◌}
use mathlib.Core.Path.{◌≡◌, refl, sym, ap, ap₂, ◌∙◌}
use mathlib.Core.List.{List}
use native.Mathlib.Decide.{dec_lt, ℕ_discrete}
use native.Mathlib.Nat.{add_comm}
use native.Mathlib.Numerals.{add-one}
use native.Mathlib.Omega.{arith}
use lib.Bits.{bit_xor, xor_zero_l, xor_zero_r}
use lib.ListN.{length, get_or, set, take, drop, replicate}
use lib.Seq.{drop-cons, drop-length, get_or-set_same, get_or-set_other, get_or-take, length-take-le}
use Rattle.bits.proofs.Laws.{zeros-at, entries-take}
use Rattle.field.specs.Exponents.{Exponents, sum_to, term, Terms}
use Rattle.field.specs.Field.{power, times, check_from, check}
use Rattle.field.proofs.Double.{size_low}
use Rattle.field.proofs.Times.{times_of_zero, times_power, power_period}
use Rattle.field.proofs.Xor.{xor_assoc}

-- ---- lists of exponents

-- what holds of the first n entries of a list at their places, once entry n is written
pub entries_next : (P : ℕ → ℕ → Type 0) (n : ℕ) (es : List ℕ) → ((c : ℕ) → c < n → P c (get_or es c 0)) → n < length es
    → (v : ℕ) → P n v
    → (c : ℕ) → c < n + 1 → P c (get_or (set es n v) c 0)
entries_next P n es q h v e c k = go (dec_lt c n)
  where
    go : Dec (c < n) → P c (get_or (set es n v) c 0)
    go (yes m) = rw (get_or-set_other es n c v 0 (λ s. omega arith)) (q c m)
    go (no m) = let s : c ≡ n = omega arith in rw (s, get_or-set_same es n v 0 h) e

-- zeros are exponents
pub exponents-none : (nc : ℕ) → 3 ≤ nc → (n : ℕ) → Exponents nc (replicate n 0)
exponents-none nc lo n k = rw (zeros-at n k) (omega (arith, size_low nc lo))

-- the first of them are exponents
pub exponents-take : (nc n : ℕ) (es : List ℕ) → Exponents nc es → Exponents nc (take n es)
exponents-take nc n es q = entries-take (λ e. e + 1 < 2 ^ nc) n es q

-- an exponent is written
pub exponents-set : (nc n v : ℕ) (es : List ℕ) → Exponents nc es → n < length es → v + 1 < 2 ^ nc
    → Exponents nc (set es n v)
exponents-set nc n v es q h l k = go (ℕ_discrete k n)
  where
    go : Dec (k ≡ n) → get_or (set es n v) k 0 + 1 < 2 ^ nc
    go (yes s) = rw (s, get_or-set_same es n v 0 h) l
    go (no s) = rw (get_or-set_other es n k v 0 s) (q k)

-- ---- sums

pub sum-next : (n : ℕ) (f : ℕ → ℕ) → sum_to (n + 1) f ≡ bit_xor (sum_to n f) (f n)
unfolding sum_to
sum-next n f = ap (λ (m : ℕ). sum_to m f) (add-one n)

pub sum_same : (n : ℕ) (f g : ℕ → ℕ) → ((k : ℕ) → k < n → f k ≡ g k) → sum_to n f ≡ sum_to n g
unfolding sum_to
sum_same zero f g h = refl
sum_same (suc n) f g h = ap₂ bit_xor (sum_same n f g (λ k m. h k (omega arith))) (h n (omega arith))

-- what the chunks from c on leave of a check, taken apart at the first
check-next : (nc i c : ℕ) (xs : List ℕ) → c < length xs
    → check_from nc i c (drop c xs)
    ≡ bit_xor (times nc (power nc (i * c)) (get_or xs c 0)) (check_from nc i (c + 1) (drop (c + 1) xs))
unfolding check_from
check-next nc i c xs h = rw (drop-cons xs c 0 h, add-one c) refl

-- ---- the list of terms

pub terms_none : (nc : ℕ) (xs cs es : List ℕ) → Exponents nc cs → Exponents nc es → Terms nc 0 0 xs cs es
unfolding sum_to check
terms_none nc xs cs es p q =
    record { few = omega arith; places = p; exponents = q; bring = λ i. xor_zero_l (check nc i xs) }

-- chunk c is 0: it brings nothing
pub terms_zero : (nc n c : ℕ) (xs cs es : List ℕ) → Terms nc n c xs cs es → c < length xs → get_or xs c 0 ≡ 0
    → Terms nc n (c + 1) xs cs es
terms_zero nc n c xs cs es q h z =
    record {
      few = omega (arith, q.few);
      places = q.places;
      exponents = q.exponents;
      bring = λ i. ap (bit_xor (sum_to n (term nc i cs es))) (sym (none i)) ∙ q.bring i;
    }
  where
    none : (i : ℕ) → check_from nc i c (drop c xs) ≡ check_from nc i (c + 1) (drop (c + 1) xs)
    none i =
        check-next nc i c xs h
        ∙ ap (λ (x : ℕ). bit_xor x (check_from nc i (c + 1) (drop (c + 1) xs)))
        (ap (times nc (power nc (i * c))) z ∙ times_of_zero nc (power nc (i * c)))
        ∙ xor_zero_l (check_from nc i (c + 1) (drop (c + 1) xs))

-- chunk c is a power of 2: it is listed
pub terms_some : (nc n c e : ℕ) (xs cs es : List ℕ) → Terms nc n c xs cs es → c < length xs → n < length cs
    → n < length es
    → c + 1 < 2 ^ nc → e + 1 < 2 ^ nc → power nc e ≡ get_or xs c 0 → Terms nc (n + 1) (c + 1) xs (set cs n c) (set es n e)
terms_some nc n c e xs cs es q h l m a b s =
    record {
      few = omega (arith, q.few);
      places = exponents-set nc n c cs q.places l a;
      exponents = exponents-set nc n e es q.exponents m b;
      bring = λ i. ap (λ (x : ℕ). bit_xor x (rest i)) (one_more i) ∙ xor_assoc (sum_to n (term nc i cs es)) (own i) (rest i)
          ∙ ap (bit_xor (sum_to n (term nc i cs es))) (sym (check-next nc i c xs h)) ∙ q.bring i;
    }
  where
    rest : ℕ → ℕ
    rest i = check_from nc i (c + 1) (drop (c + 1) xs)

    own : ℕ → ℕ
    own i = times nc (power nc (i * c)) (get_or xs c 0)

    others : (i k : ℕ) → k < n → term nc i (set cs n c) (set es n e) k ≡ term nc i cs es k
    others i k r =
        ap₂ (λ (x y : ℕ). times nc (power nc (i * x)) (power nc y)) (get_or-set_other cs n k c 0 (λ t. omega arith))
        (get_or-set_other es n k e 0 (λ t. omega arith))

    here : (i : ℕ) → term nc i (set cs n c) (set es n e) n ≡ own i
    here i =
        ap₂ (λ (x y : ℕ). times nc (power nc (i * x)) y) (get_or-set_same cs n c 0 l)
        (ap (power nc) (get_or-set_same es n e 0 m) ∙ s)

    one_more : (i : ℕ) → sum_to (n + 1) (term nc i (set cs n c) (set es n e)) ≡ bit_xor (sum_to n (term nc i cs es)) (own i)
    one_more i = sum-next n (term nc i (set cs n c) (set es n e)) ∙ ap₂ bit_xor (sum_same n _ _ (others i)) (here i)

-- all chunks are listed or 0
terms_all : (nc n i : ℕ) (xs cs es : List ℕ) → Terms nc n (length xs) xs cs es → sum_to n (term nc i cs es) ≡ check nc i xs
unfolding check_from
terms_all nc n i xs cs es q =
    sym (ap (λ (l : List ℕ). bit_xor (sum_to n (term nc i cs es)) (check_from nc i (length xs) l)) (drop-length xs)
    ∙ xor_zero_r (sum_to n (term nc i cs es)))
    ∙ q.bring i

-- ---- from check to check

-- the powers of the first n exponents of fs are the terms of check i
abbrev pub AreTerms : (nc n i : ℕ) (cs es fs : List ℕ) → Type 0
AreTerms nc n i cs es fs = (k : ℕ) → k < n → power nc (get_or fs k 0) ≡ term nc i cs es k

-- the sum of these, of the exponents that are lent, is the check
pub terms_check : (nc n i : ℕ) (xs cs es fs : List ℕ) → n ≤ length fs → Terms nc n (length xs) xs cs es
    → AreTerms nc n i cs es fs
    → sum_to (length (take n fs)) (λ k. power nc (get_or (take n fs) k 0)) ≡ check nc i xs
terms_check nc n i xs cs es fs l q t =
    rw (length-take-le n fs l)
    (sum_same n _ _ (λ k h. rw (get_or-take n fs k 0 h) (t k h)) ∙ terms_all nc n i xs cs es q)

module _ (nc : ℕ) (lo : 3 ≤ nc) (hi : nc ≤ 8) where
  -- the listed exponents are the terms of check 0
  pub first_terms : (n : ℕ) (cs es : List ℕ) → AreTerms nc n 0 cs es es
  first_terms n cs es k h =
      let z : 0 * get_or cs k 0 + get_or es k 0 ≡ get_or es k 0 = omega arith in
      sym (times_power nc lo hi (0 * get_or cs k 0) (get_or es k 0) ∙ ap (power nc) z)

  -- raised by their chunks' places they are those of the next check
  pub next_terms : (n i j : ℕ) (cs es fs gs : List ℕ) → i + 1 ≡ j → AreTerms nc n i cs es fs
      → ((k : ℕ) → k < n → power nc (get_or gs k 0) ≡ times nc (power nc (get_or cs k 0)) (power nc (get_or fs k 0)))
      → AreTerms nc n j cs es gs
  next_terms n i j cs es fs gs s q r k h =
      let c : ℕ = get_or cs k 0 in
      let e : ℕ = get_or es k 0 in
      let more : c + (i * c + e) ≡ j * c + e = rw (sym s) (omega arith) in
      r k h ∙ ap (times nc (power nc c)) (q k h ∙ times_power nc lo hi (i * c) e) ∙ times_power nc lo hi c (i * c + e)
      ∙ ap (power nc) more ∙ sym (times_power nc lo hi (j * c) e)

  -- an exponent raised by c, and one that comes round
  pub raise_low : (e c : ℕ) → power nc (e + c) ≡ times nc (power nc c) (power nc e)
  raise_low e c = ap (power nc) (add_comm e c) ∙ sym (times_power nc lo hi c e)

  pub raise_round : (e c k : ℕ) → 2 ^ nc - 1 + k ≡ c + e → power nc k ≡ times nc (power nc c) (power nc e)
  raise_round e c k s = sym (power_period nc lo hi k) ∙ ap (power nc) s ∙ sym (times_power nc lo hi c e)
