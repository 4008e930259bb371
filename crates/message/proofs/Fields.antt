-- Fields of k bits, one after another, and how many bits a number needs. Assumes nothing.
use Prim.Native.Nat.{ℕ, zero, suc, ◌+◌, ◌*◌, ◌/◌, ◌^◌, ◌<◌, ◌≤◌}
use mathlib.Core.Path.{◌≡◌, refl, sym, ap, ap₂, ◌∙◌}
use mathlib.Core.Bool.{true, false}
use mathlib.Core.List.{List, [], ◌∷◌, ◌++◌, append_assoc, append-nil, flat_map}
use native.Mathlib.Nat.{add-mul, one-mul, mul-le-mul_right, add_comm, suc-mul, zero-mul, pow-suc, mod-eq_of_lt}
use native.Mathlib.Numerals.{add-one}
use native.Mathlib.Omega.{arith}
use borrow.Author.Tests.{lt-ltb, le-ltb, ltb-false}
use lib.Dec.{ltb}
use lib.ListN.{length, get_or, take, drop, length-append, length-drop, drop_of_length-le}
use Rattle.std.proofs.Common.{take_all}
use lib.Seq.{drop-cons, drop_at, take-add, drop-drop}
use Rattle.bits.specs.Bits.{AllBits, number, digits}
use Rattle.bits.proofs.Laws.{neither_left, neither_right, bits-digits, bits-append, bits-drop, length_digits, number_digits, number_lt, digits_number, fill}
use Rattle.message.specs.Encoding.{AtMost, FitAll}
use Rattle.message.specs.Message.{halvings, width}
use Rattle.message.specs.Read.{fields, some_above}

-- ---- as many bits as a number needs
-- halving as often as the number itself is often enough
enough : (f g w : ℕ) → w ≤ f → w ≤ g → halvings f w ≡ halvings g w
unfolding halvings
enough zero zero w h k = refl
enough zero (suc g) zero h k = refl
enough zero (suc g) (suc w) h k = absurd (omega arith)
enough (suc f) zero zero h k = refl
enough (suc f) zero (suc w) h k = absurd (omega arith)
enough (suc f) (suc g) zero h k = refl
enough (suc f) (suc g) (suc w) h k = ap suc (enough f g (suc w / 2) (omega arith) (omega arith))

pub width_zero : width 0 ≡ 0
unfolding width
width_zero = refl

pub width_half : (w : ℕ) → 0 < w → width w ≡ suc (width (w / 2))
unfolding width halvings
width_half zero h = absurd (omega arith)
width_half (suc w) h = ap suc (enough w (suc w / 2) (suc w / 2) (omega arith) (omega arith))

-- a number is below 2 to the power of its width
pub width_bound : (w : ℕ) → w < 2 ^ width w
unfolding width halvings
width_bound w = go w w (omega arith)
  where
    go : (f w : ℕ) → w ≤ f → w < 2 ^ halvings f w
    go zero zero h = omega arith
    go zero (suc w) h = absurd (omega arith)
    go (suc f) zero h = omega arith
    go (suc f) (suc w) h = rw (pow-suc 2 (halvings f (suc w / 2))) (omega (arith, go f (suc w / 2) (omega arith)))

-- and what is below 2 ^ k needs at most k bits
pub width-most : (k w : ℕ) → w < 2 ^ k → width w ≤ k
width-most zero w h = rw (z w (omega arith), width_zero) (omega arith)
  where
    z : (w : ℕ) → w ≤ 0 → w ≡ 0
    z w h = omega arith
width-most (suc k) zero h = rw width_zero (omega arith)
width-most (suc k) (suc w) h =
    let p : suc w < 2 ^ k * 2 = rw (pow-suc 2 k) at h in
    omega (arith, width_half (suc w) (omega arith), width-most k (suc w / 2) (omega arith))

-- ---- fields
pub length_fields : (n k : ℕ) (x : List ℕ) → length (fields n k x) ≡ n
unfolding fields
length_fields zero k x = refl
length_fields (suc n) k x = ap suc (length_fields n k (drop k x))

-- field i starts i × k bits on
pub fields_at : (n k i : ℕ) (x : List ℕ) → i < n → get_or (fields n k x) i 0 ≡ number k (drop (i * k) x)
unfolding fields
fields_at zero k i x h = absurd (omega arith)
fields_at (suc n) k zero x h = rw (zero-mul k) refl
fields_at (suc n) k (suc i) x h =
    fields_at n k i (drop k x) (omega arith)
    ∙ ap (number k) (drop-drop (i * k) k x ∙ ap (λ (m : ℕ). drop m x) (sym (suc-mul i k ∙ add_comm (i * k) k)))

-- the field that a cursor reads after i fields
pub field_value : (n k at i : ℕ) (x : List ℕ) → i < n → number k (drop (at + i * k) x) ≡ get_or (fields n k (drop at x)) i 0
field_value n k at i x h = ap (number k) (sym (drop-drop (i * k) at x)) ∙ sym (fields_at n k i (drop at x) h)

-- and that there is room for it
pub field_room : (n k i : ℕ) → i < n → i * k + k ≤ n * k
field_room n k i h = omega (arith, mul-le-mul_right k h, suc-mul i k)

pub field_step : (at k i : ℕ) → at + i * k + k ≡ at + (i + 1) * k
field_step at k i = omega (arith, add-mul i 1 k, one-mul k)

pub fields_fit : (n k : ℕ) (x : List ℕ) → AllBits x → FitAll k (fields n k x)
unfolding fields
fields_fit zero k x a = tt
fields_fit (suc n) k x a = (number_lt k x a, fields_fit n k (drop k x) (bits-drop k x a))

pub bits-flat : (k : ℕ) (vs : List ℕ) → AllBits (flat_map (digits k) vs)
unfolding flat_map
bits-flat k [] = tt
bits-flat k (v ∷ vs) = bits-append (digits k v) (flat_map (digits k) vs) (bits-digits k v) (bits-flat k vs)

pub length-flat : (k : ℕ) (vs : List ℕ) → length (flat_map (digits k) vs) ≡ length vs * k
unfolding flat_map
length-flat k [] = sym (zero-mul k)
length-flat k (v ∷ vs) =
    length-append (digits k v) (flat_map (digits k) vs)
    ∙ omega (arith, length_digits k v, length-flat k vs, suc-mul (length vs) k)

-- numbers written in fields of k bits are read from them again
pub fields-flat : (n k : ℕ) (vs y : List ℕ) → length vs ≡ n → FitAll k vs → fields n k (flat_map (digits k) vs ++ y) ≡ vs
unfolding fields flat_map
fields-flat zero k [] y e f = refl
fields-flat zero k (v ∷ vs) y e f = absurd (omega arith)
fields-flat (suc n) k [] y e f = absurd (omega arith)
fields-flat (suc n) k (v ∷ vs) y e f =
    rw (append_assoc (digits k v) (flat_map (digits k) vs) y)
    (ap₂ (λ (a : ℕ) (b : List ℕ). a ∷ b) (number_digits k v (flat_map (digits k) vs ++ y) ∙ mod-eq_of_lt f.0)
    (ap (fields n k) (drop_at (digits k v) (flat_map (digits k) vs ++ y) k (length_digits k v))
    ∙ fields-flat n k vs y (omega arith) f.1))

fill_all : (k : ℕ) (x : List ℕ) → k ≤ length x → fill k x ≡ take k x
unfolding fill
fill_all zero x h = refl
fill_all (suc k) [] h = absurd (omega arith)
fill_all (suc k) (b ∷ x) h = ap (λ (l : List ℕ). b ∷ l) (fill_all k x (omega arith))

-- fields that were read, written again, are the bits that they stood in
pub flat-fields : (n k : ℕ) (x : List ℕ) → AllBits x → n * k ≤ length x
    → flat_map (digits k) (fields n k x) ≡ take (n * k) x
unfolding fields flat_map
flat-fields zero k x a h = rw (zero-mul k) refl
flat-fields (suc n) k x a h =
    let e : suc n * k ≡ k + n * k = suc-mul n k ∙ add_comm (n * k) k in
    rw e
    (ap₂ (λ (p q : List ℕ). p ++ q) (digits_number k x a ∙ fill_all k x (omega (arith, e)))
    (flat-fields n k (drop k x) (bits-drop k x a) (simp length-drop (omega (arith, e))))
    ∙ sym (take-add k (n * k) x))

-- ---- ranges
pub none_above : (w : ℕ) (vs : List ℕ) → AtMost w vs → some_above w vs ≡ false
unfolding some_above
none_above w [] a = refl
none_above w (v ∷ vs) a = rw (le-ltb w v a.0) (none_above w vs a.1)

pub at_most : (w : ℕ) (vs : List ℕ) → some_above w vs ≡ false → AtMost w vs
unfolding some_above
at_most w [] e = tt
at_most w (v ∷ vs) e =
    (ltb-false w v (neither_left (ltb w v) (some_above w vs) e), at_most w vs (neither_right (ltb w v) (some_above w vs) e))

-- looking at the numbers one by one
pub above-next : (w : ℕ) (vs : List ℕ) (i : ℕ) → i < length vs → get_or vs i 0 ≤ w
    → some_above w (drop (i + 1) vs) ≡ some_above w (drop i vs)
unfolding some_above
above-next w vs i h e = rw (drop-cons vs i 0 h, add-one i, le-ltb w (get_or vs i 0) e) refl

pub above_stop : (w : ℕ) (vs : List ℕ) (i : ℕ) → i < length vs → w < get_or vs i 0 → some_above w (drop i vs) ≡ true
unfolding some_above
above_stop w vs i h e = rw (drop-cons vs i 0 h, lt-ltb w (get_or vs i 0) e) refl

pub above-end : (w : ℕ) (vs : List ℕ) (i : ℕ) → length vs ≤ i → some_above w (drop i vs) ≡ false
unfolding some_above
above-end w vs i h = rw (drop_of_length-le vs h) refl

-- a sum in range fits the field that is made for it
pub fit-width : (w : ℕ) (vs : List ℕ) → AtMost w vs → FitAll (width w) vs
fit-width w [] a = tt
fit-width w (v ∷ vs) a = (omega (arith, width_bound w, a.0), fit-width w vs a.1)

-- a slice that is written to its end
pub front_whole : (d f : List ℕ) (i : ℕ) → length d ≤ i → length f ≡ length d → take i f ++ drop i d ≡ f
front_whole d f i h e = rw (take_all i f (omega arith), drop_of_length-le d {i = i} h) (append-nil f)
