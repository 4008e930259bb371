-- Bits, the numbers that they spell, and digits. Assumes nothing.
use Prim.Native.Nat.{ℕ, zero, suc, ◌+◌, ◌-◌, ◌*◌, ◌/◌, ◌%◌, ◌^◌, ◌<◌, ◌≤◌}
use mathlib.Core.Path.{◌≡◌, refl, sym, ap, ap₂, ◌∙◌}
use mathlib.Core.Bool.{Bool, true, false, ◌&&◌, ◌||◌, false≢true, true≢false, and_assoc}
use mathlib.Core.Logic.{◌⊎◌, inl, inr, ⊎_elim}
use mathlib.Core.List.{List, [], ◌∷◌, ◌++◌}
use native.Mathlib.Nat.{pow-suc, add-zero, zero-add, add-mul, mul_assoc, mul_comm, mod-lt, mod-eq_of_lt, zero-mul, mul-one, mul-add-div_right, mul-add-mod_self_right, mod-one, zero-div}
use native.Mathlib.Numerals.{add-one}
use native.Mathlib.Omega.{arith}
use borrow.Author.Tests.{ltb-true, ltb-false, eq-eqb, ne_eqb, eqb-true}
use lib.Arith.{digits_lt, digits_div, mod-mul}
use lib.Dec.{ltb, eqb}
use lib.ListN.{length, get_or, set, take, drop, replicate, length-append, get_or-eq_default, drop_of_length-le}
use lib.Pow.{pow_pos, pow_mono}
use lib.Seq.{drop-cons}
use Rattle.bits.specs.Bits.{AllBits, number, digits, unpack, same}

pub lt_or_ge : (a b : ℕ) → (a < b) ⊎ (b ≤ a)
lt_or_ge a b = go (ltb a b) refl
  where
    go : (t : Bool) → ltb a b ≡ t → (a < b) ⊎ (b ≤ a)
    go true e = inl (ltb-true a b e)
    go false e = inr (ltb-false a b e)

-- ---- entries of lists of numbers
-- an array of zeros
pub zeros-at : (n i : ℕ) → ◌≡◌ {A = ℕ} (get_or (replicate n 0) i 0) 0
zeros-at zero i = refl
zeros-at (suc n) zero = refl
zeros-at (suc n) (suc i) = zeros-at n i

-- what holds of each entry, and so of the 0 past the end, holds of each entry of the first n
pub entries-take : (P : ℕ → Type 0) (n : ℕ) (xs : List ℕ) → ((k : ℕ) → P (get_or xs k 0)) → (k : ℕ) → P (get_or (take n xs) k 0)
entries-take P zero xs h k = rw (get_or-eq_default xs 0 {n = length xs} (omega arith)) at (h (length xs))
entries-take P (suc n) [] h k = h k
entries-take P (suc n) (x ∷ xs) h zero = h 0
entries-take P (suc n) (x ∷ xs) h (suc k) = entries-take P n xs (λ i. h (suc i)) k

-- ---- tests of two
pub both_left : (a b : Bool) → (a && b) ≡ true → a ≡ true
both_left true b e = refl
both_left false b e = e

pub both_right : (a b : Bool) → (a && b) ≡ true → b ≡ true
both_right true b e = e
both_right false b e = absurd (false≢true e)

-- what cannot be true is false
pub refuted : (b : Bool) → (b ≡ true → ⊥) → false ≡ b
refuted true n = absurd (n refl)
refuted false n = refl

-- two tests that are true together are equal
pub both_ways : (a b : Bool) → (a ≡ true → b ≡ true) → (b ≡ true → a ≡ true) → a ≡ b
both_ways true b f g = sym (f refl)
both_ways false true f g = g refl
both_ways false false f g = refl

pub neither_left : (a b : Bool) → (a || b) ≡ false → a ≡ false
neither_left true b e = e
neither_left false b e = refl

pub neither_right : (a b : Bool) → (a || b) ≡ false → b ≡ false
neither_right true b e = absurd (true≢false e)
neither_right false b e = e

-- where a zero is set a zero stands, also beyond the end
pub set_zero : (xs : List ℕ) (c : ℕ) → get_or (set xs c 0) c 0 ≡ 0
set_zero [] c = refl
set_zero (x ∷ xs) zero = refl
set_zero (x ∷ xs) (suc c) = set_zero xs c

pub pow_next : (j : ℕ) → 2 ^ (j + 1) ≡ 2 ^ j * 2
pow_next j = rw (add-one j) (pow-suc 2 j)

pub pow_low : (j : ℕ) → j < 8 → 2 ^ j ≤ 128
pow_low j h = pow_mono {i = j} {j = 7} (omega arith)

-- ---- which lists are bits
pub bit_at : (x : List ℕ) → AllBits x → (i : ℕ) → get_or x i 0 < 2
bit_at [] a i = omega arith
bit_at (b ∷ x) a zero = a.0
bit_at (b ∷ x) a (suc i) = bit_at x a.1 i

pub bits_of-each : (x : List ℕ) → ((i : ℕ) → get_or x i 0 < 2) → AllBits x
bits_of-each [] h = tt
bits_of-each (b ∷ x) h = (h 0, bits_of-each x (λ i. h (suc i)))

pub bits-append : (x y : List ℕ) → AllBits x → AllBits y → AllBits (x ++ y)
bits-append [] y a b = b
bits-append (v ∷ x) y a b = (a.0, bits-append x y a.1 b)

pub bits-take : (n : ℕ) (x : List ℕ) → AllBits x → AllBits (take n x)
bits-take zero x a = tt
bits-take (suc n) [] a = tt
bits-take (suc n) (b ∷ x) a = (a.0, bits-take n x a.1)

pub bits-drop : (n : ℕ) (x : List ℕ) → AllBits x → AllBits (drop n x)
bits-drop zero x a = a
bits-drop (suc n) [] a = tt
bits-drop (suc n) (b ∷ x) a = bits-drop n x a.1

pub bits-digits : (k v : ℕ) → AllBits (digits k v)
unfolding digits
bits-digits zero v = tt
bits-digits (suc k) v = (mod-lt (v / 2 ^ k) (omega arith), bits-digits k v)

pub bits-unpack : (s : List ℕ) → AllBits (unpack s)
unfolding unpack
bits-unpack [] = tt
bits-unpack (v ∷ s) = bits-append (digits 8 v) (unpack s) (bits-digits 8 v) (bits-unpack s)

-- ---- lengths
pub length_digits : (k v : ℕ) → length (digits k v) ≡ k
unfolding digits
length_digits zero v = refl
length_digits (suc k) v = ap suc (length_digits k v)

pub length-unpack : (s : List ℕ) → length (unpack s) ≡ length s * 8
unfolding unpack
length-unpack [] = refl
length-unpack (v ∷ s) = length-append (digits 8 v) (unpack s) ∙ omega (arith, length_digits 8 v, length-unpack s)

-- ---- the number that bits spell
pub number-none : (k : ℕ) → number k [] ≡ 0
unfolding number
number-none zero = refl
number-none (suc k) = refl

pub number_cons : (k b : ℕ) (x : List ℕ) → number (suc k) (b ∷ x) ≡ b * 2 ^ k + number k x
unfolding number
number_cons k b x = refl

pub number_lt : (k : ℕ) (x : List ℕ) → AllBits x → number k x < 2 ^ k
unfolding number
number_lt zero x a = omega arith
number_lt (suc k) [] a = pow_pos (suc k)
number_lt (suc k) (b ∷ x) a = rw (pow-suc 2 k, mul_comm (2 ^ k) 2) (digits_lt a.0 (number_lt k x a.1))

-- it needs no more bits than it has digits
pub number-take : (k : ℕ) (x : List ℕ) → number k (take k x) ≡ number k x
unfolding number
number-take zero x = refl
number-take (suc k) [] = refl
number-take (suc k) (b ∷ x) = ap (λ (n : ℕ). b * 2 ^ k + n) (number-take k x)

-- a digit more, at the end of those that were read
horner : (v b m n : ℕ) → (v * 2 + b) * 2 ^ m + n ≡ v * 2 ^ suc m + (b * 2 ^ m + n)
horner v b m n =
    let e : v * 2 ^ suc m ≡ v * 2 * 2 ^ m =
    ap (λ (p : ℕ). v * p) (pow-suc 2 m ∙ mul_comm (2 ^ m) 2) ∙ sym (mul_assoc v 2 (2 ^ m)) in
    omega (arith, add-mul (v * 2) b (2 ^ m))

-- what is read so far, v, with the bits from place at + i on still to come, is the same number a bit later
pub number-next : (v k at i : ℕ) (x : List ℕ) → i < k
    → (v * 2 + get_or x (at + i) 0) * 2 ^ (k - (i + 1)) + number (k - (i + 1)) (drop (at + (i + 1)) x)
    ≡ v * 2 ^ (k - i) + number (k - i) (drop (at + i) x)
number-next v k at i x h =
    let e : k - i ≡ suc (k - (i + 1)) = omega arith in
    let d : at + (i + 1) ≡ suc (at + i) = omega arith in
    rw (e, d) (⊎_elim inside outside (lt_or_ge (at + i) (length x)))
  where
    m : ℕ
    m = k - (i + 1)

    Next : Type 0
    Next =
        (v * 2 + get_or x (at + i) 0) * 2 ^ (k - (i + 1)) + number (k - (i + 1)) (drop (suc (at + i)) x)
        ≡ v * 2 ^ suc (k - (i + 1)) + number (suc (k - (i + 1))) (drop (at + i) x)

    inside : at + i < length x → Next
    inside p =
        rw (drop-cons x (at + i) 0 p, number_cons) (horner v (get_or x (at + i) 0) m (number m (drop (suc (at + i)) x)))

    outside : length x ≤ at + i → Next
    outside p =
        rw (
          get_or-eq_default x 0 p,
          drop_of_length-le x {i = suc (at + i)} (omega arith),
          drop_of_length-le x p,
          number-none,
          number-none,
        ) (horner v 0 m 0 ∙ rw (zero-mul (2 ^ m)) refl)

-- nothing is still to come
pub number-end : (v k : ℕ) (x : List ℕ) → k ≡ 0 → v * 2 ^ k + number k x ≡ v
unfolding number
number-end v k x e = rw (e, mul-one, add-zero) refl

-- the number depends on the bits alone, not on whether zeros past the end are written
pub number_ext : (k : ℕ) (x y : List ℕ) → ((i : ℕ) → get_or x i 0 ≡ get_or y i 0) → number k x ≡ number k y
unfolding number
number_ext zero x y h = refl
number_ext (suc k) [] [] h = refl
number_ext (suc k) [] (c ∷ y) h =
    rw (← h 0, zero-mul, zero-add) (sym (number-none k) ∙ number_ext k [] y (λ i. h (suc i)))
number_ext (suc k) (b ∷ x) [] h = rw (h 0, zero-mul, zero-add) (number_ext k x [] (λ i. h (suc i)) ∙ number-none k)
number_ext (suc k) (b ∷ x) (c ∷ y) h = ap₂ (λ (p q : ℕ). p * 2 ^ k + q) (h 0) (number_ext k x y (λ i. h (suc i)))

-- ---- digits
pub digits-at : (k v i : ℕ) → i < k → get_or (digits k v) i 0 ≡ v / 2 ^ (k - (i + 1)) % 2
unfolding digits
digits-at zero v i h = absurd (omega arith)
digits-at (suc k) v zero h =
    let e : suc k - (0 + 1) ≡ k = omega arith in
    rw e refl
digits-at (suc k) v (suc i) h =
    let e : suc k - (suc i + 1) ≡ k - (i + 1) = omega arith in
    rw e (digits-at k v i (omega arith))

pow_more : (c j : ℕ) → c * 2 ^ suc j ≡ c * 2 * 2 ^ j
pow_more c j = ap (λ (p : ℕ). c * p) (pow-suc 2 j ∙ mul_comm (2 ^ j) 2) ∙ sym (mul_assoc c 2 (2 ^ j))

-- digits above the j-th do not matter
pub digits_above : (j c n : ℕ) → digits j (c * 2 ^ j + n) ≡ digits j n
unfolding digits
digits_above zero c n = refl
digits_above (suc j) c n =
    rw (pow_more c j)
    (ap₂ (λ (d : ℕ) (l : List ℕ). d ∷ l)
    (ap (λ (q : ℕ). q % 2) (mul-add-div_right (pow_pos j) (c * 2) n) ∙ mul-add-mod_self_right c 2 (n / 2 ^ j))
    (digits_above j (c * 2) n))

-- k digits of a number spell it again, whatever follows them
pub number_digits : (k v : ℕ) (x : List ℕ) → number k (digits k v ++ x) ≡ v % 2 ^ k
unfolding number digits
number_digits zero v x = sym (mod-one v)
number_digits (suc k) v x =
    let e : 2 ^ suc k ≡ 2 * 2 ^ k = pow-suc 2 k ∙ mul_comm (2 ^ k) 2 in
    ap (λ (n : ℕ). v / 2 ^ k % 2 * 2 ^ k + n) (number_digits k v x)
    ∙ sym (ap (λ (n : ℕ). v % n) e ∙ mod-mul v {m = 2} {c = 2 ^ k} (omega arith) (pow_pos k))

-- the first k bits of a string, with zeros past its end
unfoldable pub fill : ℕ → List ℕ → List ℕ
fill zero x = []
fill (suc k) [] = 0 ∷ fill k []
fill (suc k) (b ∷ x) = b ∷ fill k x

-- the digits of the number that bits spell are these bits
pub digits_number : (k : ℕ) (x : List ℕ) → AllBits x → digits k (number k x) ≡ fill k x
unfolding number digits fill
digits_number zero x a = refl
digits_number (suc k) [] a =
    ap₂ (λ (d : ℕ) (l : List ℕ). d ∷ l) (ap (λ (q : ℕ). q % 2) (zero-div (2 ^ k)))
    (ap (digits k) (sym (number-none k)) ∙ digits_number k [] tt)
digits_number (suc k) (b ∷ x) a =
    ap₂ (λ (d : ℕ) (l : List ℕ). d ∷ l)
    (ap (λ (q : ℕ). q % 2) (digits_div b (number_lt k x a.1)) ∙ mod-eq_of_lt a.0)
    (digits_above k b (number k x) ∙ digits_number k x a.1)

-- ---- equal lists
pub same_eq : (x y : List ℕ) → same x y ≡ true → x ≡ y
unfolding same
same_eq [] [] e = refl
same_eq [] (b ∷ y) e = absurd (false≢true e)
same_eq (a ∷ x) [] e = absurd (false≢true e)
same_eq (a ∷ x) (b ∷ y) e =
    ap₂ (λ (h : ℕ) (t : List ℕ). h ∷ t) (eqb-true a b (both_left (eqb a b) (same x y) e))
    (same_eq x y (both_right (eqb a b) (same x y) e))

pub same_refl : (x : List ℕ) → same x x ≡ true
unfolding same
same_refl [] = refl
same_refl (a ∷ x) = rw (eq-eqb a a refl) (same_refl x)

-- comparing element by element
pub same_next : (x y : List ℕ) (i : ℕ) → i < length x → i < length y → get_or x i 0 ≡ get_or y i 0
    → same (drop (i + 1) x) (drop (i + 1) y) ≡ same (drop i x) (drop i y)
unfolding same
same_next x y i h k e = rw (drop-cons x i 0 h, drop-cons y i 0 k, add-one i, eq-eqb (get_or x i 0) (get_or y i 0) e) refl

pub same_stop : (x y : List ℕ) (i : ℕ) → i < length x → i < length y → (get_or x i 0 ≡ get_or y i 0 → ⊥)
    → same (drop i x) (drop i y) ≡ false
unfolding same
same_stop x y i h k n = rw (drop-cons x i 0 h, drop-cons y i 0 k, ne_eqb (get_or x i 0) (get_or y i 0) n) refl

pub same_end : (x y : List ℕ) (i : ℕ) → length x ≤ i → length y ≤ i → same (drop i x) (drop i y) ≡ true
unfolding same
same_end x y i h k = rw (drop_of_length-le x h, drop_of_length-le y k) refl

-- comparing part by part
pub same-append : (x y u v : List ℕ) → length x ≡ length y → same (x ++ u) (y ++ v) ≡ (same x y && same u v)
unfolding same
same-append [] [] u v e = refl
same-append [] (b ∷ y) u v e = absurd (omega arith)
same-append (a ∷ x) [] u v e = absurd (omega arith)
same-append (a ∷ x) (b ∷ y) u v e =
    ap (λ (t : Bool). eqb a b && t) (same-append x y u v (omega arith)) ∙ sym (and_assoc (eqb a b) (same x y) (same u v))
