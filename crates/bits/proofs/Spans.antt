-- The number that a span of a longer string of bits spells, from the number of the whole, and the numbers of whole
-- bytes. Assumes nothing.
use Prim.Native.Nat.{ℕ, zero, suc, ◌+◌, ◌-◌, ◌*◌, ◌/◌, ◌%◌, ◌^◌, ◌<◌, ◌≤◌}
use mathlib.Core.Path.{◌≡◌, refl, sym, ap, ap₂, ◌∙◌}
use mathlib.Core.List.{List, [], ◌∷◌, ◌++◌}
use native.Mathlib.Nat.{zero-add, suc-add, zero-mul, add-mul, mul_assoc, mod-eq_of_lt, mul-add-mod_self_right}
use native.Mathlib.Numerals.{add-one}
use native.Mathlib.Omega.{arith}
use lib.ListN.{length, get_or, take, drop, length-append, length-drop, take-append-drop}
use lib.Pow.{pow-add, high}
use lib.Seq.{drop_at, drop-cons, take-nil, drop-drop, drop-nil, drop-append-add, drop-append-le, length-take-le, take-suc}
use Rattle.bits.specs.Bits.{AllBits, AllBytes, number, digits, bytes, unpack}
use Rattle.bits.proofs.Laws.{bits-append, bits-digits, bits-take, bits-drop, bits-unpack, length-unpack, bit_at, number_lt, number-none, number_cons, number_digits, length_digits}
use Rattle.bits.proofs.Packing.{bytes-at, bytes-unpack, length-bytes}

-- a string taken apart behind its first a bits
pub number-add : (a b : ℕ) (x : List ℕ) → number (a + b) x ≡ number a x * 2 ^ b + number b (drop a x)
unfolding number
number-add zero b x = rw (zero-add b, zero-mul, zero-add) refl
number-add (suc a) b [] = rw (number-none (suc a + b), number-none b, zero-mul) refl
number-add (suc a) b (c ∷ x) =
    rw (
      suc-add a b,
      number_cons (a + b) c x,
      number-add a b x,
      pow-add 2 a b,
      ← mul_assoc c (2 ^ a) (2 ^ b),
      add-mul (c * 2 ^ a) (number a x) (2 ^ b),
    )
    (omega arith)

-- k bits behind the first a, with c bits behind them
pub number_span : (a k c : ℕ) (x : List ℕ) → AllBits x → number (a + (k + c)) x / 2 ^ c % 2 ^ k ≡ number k (drop a x)
number_span a k c x b =
    let y : List ℕ = drop a x in
    let n : ℕ = number k y in
    let e : number (a + (k + c)) x ≡ (number a x * 2 ^ k + n) * 2 ^ c + number c (drop k y) =
    number-add a (k + c) x
    ∙ rw (
      number-add k c y,
      pow-add 2 k c,
      ← mul_assoc (number a x) (2 ^ k) (2 ^ c),
      add-mul (number a x * 2 ^ k) n (2 ^ c),
    ) (omega arith) in
    rw (
      e,
      high (number a x * 2 ^ k + n) c (number_lt c (drop k y) (bits-drop k y (bits-drop a x b))),
      mul-add-mod_self_right (number a x) (2 ^ k) n,
    )
    (mod-eq_of_lt (number_lt k y (bits-drop a x b)))

-- the bits of byte i spell the byte; past the end stands 0
pub number-byte : (s : List ℕ) → AllBytes s → (i : ℕ) → number 8 (drop (i * 8) (unpack s)) ≡ get_or s i 0
unfolding unpack
number-byte [] a i = rw (drop-nil (i * 8)) (number-none 8)
number-byte (v ∷ s) a zero = number_digits 8 v (unpack s) ∙ mod-eq_of_lt a.0
number-byte (v ∷ s) a (suc i) =
    let e : suc i * 8 ≡ length (digits 8 v) + i * 8 = omega (arith, length_digits 8 v) in
    rw (e, drop-append-add (digits 8 v) (unpack s) (i * 8)) (number-byte s a.1 i)

-- the bits from byte i on spell the byte, and then what those from the next byte on spell
byte_then : (s : List ℕ) → AllBytes s → (i j k : ℕ) → j ≡ i + 1
    → number (8 + k) (drop (i * 8) (unpack s)) ≡ get_or s i 0 * 2 ^ k + number k (drop (j * 8) (unpack s))
byte_then s a i j k e =
    let u : List ℕ = unpack s in
    let p : i * 8 + 8 ≡ j * 8 = omega arith in
    number-add 8 k (drop (i * 8) u)
    ∙ ap₂ (λ (v w : ℕ). v * 2 ^ k + w) (number-byte s a i)
    (ap (number k) (drop-drop 8 (i * 8) u ∙ ap (λ (n : ℕ). drop n u) p))

-- four bytes in a row
pub number_four : (s : List ℕ) → AllBytes s → (i : ℕ)
    → get_or s i 0 * 16777216 + get_or s (i + 1) 0 * 65536 + get_or s (i + 2) 0 * 256 + get_or s (i + 3) 0
    ≡ number 32 (drop (i * 8) (unpack s))
number_four s a i =
    omega (
      arith,
      byte_then s a i (i + 1) 24 refl,
      byte_then s a (i + 1) (i + 2) 16 (omega arith),
      byte_then s a (i + 2) (i + 3) 8 (omega arith),
      number-byte s a (i + 3),
    )

-- the k bits from a place on, within the four bytes from byte i on, that have so many bits behind them there
pub number_in_four : (i at k behind : ℕ) (u : List ℕ) → AllBits u → i * 8 ≤ at → (i + 4) * 8 ≡ at + k + behind
    → number 32 (drop (i * 8) u) / 2 ^ behind % 2 ^ k ≡ number k (drop at u)
number_in_four i at k behind u b h e =
    let front : ℕ = at - i * 8 in
    let w : 32 ≡ front + (k + behind) = omega arith in
    let p : i * 8 + front ≡ at = omega arith in
    ap (λ (n : ℕ). number n (drop (i * 8) u) / 2 ^ behind % 2 ^ k) w
    ∙ number_span front k behind (drop (i * 8) u) (bits-drop (i * 8) u b)
    ∙ ap (number k) (drop-drop front (i * 8) u ∙ ap (λ (n : ℕ). drop n u) p)

-- the first bits alone decide
pub number_front : (k : ℕ) (x y : List ℕ) → k ≤ length x → number k (x ++ y) ≡ number k x
unfolding number
number_front zero x y h = refl
number_front (suc k) [] y h = absurd (omega arith)
number_front (suc k) (b ∷ x) y h = ap (λ (n : ℕ). b * 2 ^ k + n) (number_front k x y (omega arith))

drop-take : (i n : ℕ) (x : List ℕ) → drop i (take n x) ≡ take (n - i) (drop i x)
drop-take zero n x = let e : n - 0 ≡ n = omega arith in rw e refl
drop-take (suc i) zero x = let e : 0 - suc i ≡ 0 = omega arith in rw e refl
drop-take (suc i) (suc n) [] = rw (take-nil (suc n - suc i)) refl
drop-take (suc i) (suc n) (b ∷ x) = let e : suc n - suc i ≡ n - i = omega arith in rw e (drop-take i n x)

-- ---- bytes in a row
pub bytes_front : (n : ℕ) (x y : List ℕ) → n * 8 ≤ length x → bytes n (x ++ y) ≡ bytes n x
unfolding bytes
bytes_front zero x y h = refl
bytes_front (suc n) x y h =
    ap₂ (λ (v : ℕ) (s : List ℕ). v ∷ s) (number_front 8 x y (omega arith))
    (ap (bytes n) (drop-append-le 8 x y (omega arith)) ∙ bytes_front n (drop 8 x) y (omega (arith, length-drop 8 x)))

pub take-bytes : (i n : ℕ) (x : List ℕ) → i ≤ n → take i (bytes n x) ≡ bytes i x
unfolding bytes
take-bytes zero n x h = refl
take-bytes (suc i) zero x h = absurd (omega arith)
take-bytes (suc i) (suc n) x h = ap (λ (s : List ℕ). number 8 x ∷ s) (take-bytes i n (drop 8 x) (omega arith))

pub drop-bytes : (i n : ℕ) (x : List ℕ) → drop i (bytes n x) ≡ bytes (n - i) (drop (i * 8) x)
unfolding bytes
drop-bytes zero n x = let e : n - 0 ≡ n = omega arith in rw e refl
drop-bytes (suc i) zero x = let e : 0 - suc i ≡ 0 = omega arith in rw e refl
drop-bytes (suc i) (suc n) x =
    let e : suc n - suc i ≡ n - i = omega arith in
    let f : suc i * 8 ≡ 8 + i * 8 = omega arith in
    rw (e, f) (drop-bytes i n (drop 8 x) ∙ ap (bytes (n - i)) (drop-drop (i * 8) 8 x))

-- ---- a bit put into a string, in the bytes that hold it
-- the last bit of a byte and the first seven of the next: a byte of the string with a bit before it
pub moved_byte : (s : List ℕ) → AllBytes s → (b i : ℕ)
    → get_or s i 0 % 2 * 128 + get_or s (i + 1) 0 / 2 ≡ number 8 (drop ((i + 1) * 8) (b ∷ unpack s))
moved_byte s a b i =
    let u : List ℕ = unpack s in
    let x : List ℕ = drop (i * 8) u in
    let y : List ℕ = drop ((i + 1) * 8) u in
    let e : (i + 1) * 8 ≡ suc (i * 8 + 7) = omega arith in
    let f : i * 8 + 7 + 1 ≡ (i + 1) * 8 = omega arith in
    let d : drop ((i + 1) * 8) (b ∷ u) ≡ drop 7 x = ap (λ (n : ℕ). drop n (b ∷ u)) e ∙ sym (drop-drop 7 (i * 8) u) in
    let g : drop 1 (drop 7 x) ≡ y =
    ap (drop 1) (drop-drop 7 (i * 8) u) ∙ drop-drop 1 (i * 8 + 7) u ∙ ap (λ (n : ℕ). drop n u) f in
    let l : number 1 (drop 7 x) < 2 ^ 1 = number_lt 1 (drop 7 x) (bits-drop 7 x (bits-drop (i * 8) u (bits-unpack s))) in
    let m : number 1 (drop 7 y) < 2 ^ 1 =
    number_lt 1 (drop 7 y) (bits-drop 7 y (bits-drop ((i + 1) * 8) u (bits-unpack s))) in
    let h : number 7 (drop 1 (drop 7 x)) ≡ number 7 y = ap (number 7) g in
    rw d (omega (
      arith,
      number-add 1 7 (drop 7 x),
      number-add 7 1 x,
      number-add 7 1 y,
      number-byte s a i,
      number-byte s a (i + 1),
    ))

-- a byte with a bit put in at place q, its last bit left out
pub put-number : (x : List ℕ) (q b : ℕ) → AllBits x → q ≤ length x → q < 8
    → number 8 (take q x ++ (b ∷ drop q x))
    ≡ number 8 x / 2 ^ (8 - q) * 2 ^ (8 - q) + (b * 2 ^ (7 - q) + number 8 x / 2 % 2 ^ (7 - q))
put-number x q b a h k =
    let r : ℕ = 7 - q in
    let z : List ℕ = take q x ++ (b ∷ drop q x) in
    let n : length (take q x) ≡ q = length-take-le q x h in
    let w : 8 ≡ q + suc r = omega arith in
    let v : 8 ≡ q + (r + 1) = omega arith in
    let e : 8 - q ≡ suc r = omega arith in
    let front : number q z ≡ number q x =
    number_front q (take q x) (b ∷ drop q x) (omega arith) ∙ sym (number_front q (take q x) (drop q x) (omega arith))
    ∙ ap (number q) (take-append-drop q x) in
    let low : number (suc r) (drop q x) < 2 ^ suc r = number_lt (suc r) (drop q x) (bits-drop q x a) in
    let high : number 8 x / 2 ^ suc r ≡ number q x =
    ap (λ (m : ℕ). number m x / 2 ^ suc r) w ∙ ap (λ (m : ℕ). m / 2 ^ suc r) (number-add q (suc r) x)
    ∙ high (number q x) (suc r) low in
    let back : number r (drop q x) ≡ number 8 x / 2 % 2 ^ r =
    sym (number_span q r 1 x a) ∙ ap (λ (m : ℕ). number m x / 2 % 2 ^ r) (sym v) in
    ap (λ (m : ℕ). number m z) w ∙ number-add q (suc r) z
    ∙ rw (e, high, ← back, front, drop_at (take q x) (b ∷ drop q x) q n, number_cons r b (drop q x)) refl

-- it is a byte again
pub put_low : (v q b : ℕ) → v < 256 → q < 8 → b < 2
    → v / 2 ^ (8 - q) * 2 ^ (8 - q) + (b * 2 ^ (7 - q) + v / 2 % 2 ^ (7 - q)) < 256
put_low v q b h k l =
    let x : List ℕ = digits 8 v ++ [] in
    let n : number 8 x ≡ v = number_digits 8 v [] ∙ mod-eq_of_lt h in
    let a : AllBits x = bits-append (digits 8 v) [] (bits-digits 8 v) tt in
    rw (← n, ← put-number x q b a (omega (arith, length-append (digits 8 v) [], length_digits 8 v)) k)
    (number_lt 8 (take q x ++ (b ∷ drop q x))
    (bits-append (take q x) (b ∷ drop q x) (bits-take q x a) (l, bits-drop q x a)))

module _ (s : List ℕ) (a : AllBytes s) (at b count : ℕ) (h : at ≤ length s * 8) (k : at / 8 < count) where
  -- the string with the bit put in
  put : List ℕ
  put = take at (unpack s) ++ (b ∷ drop at (unpack s))

  before : length (take at (unpack s)) ≡ at
  before = length-take-le at (unpack s) (omega (arith, length-unpack s))

  -- its whole bytes before the bit
  put_front : take (at / 8) (bytes count put) ≡ take (at / 8) s
  unfolding put
  put_front =
      let f : ℕ = at / 8 in
      let u : List ℕ = unpack s in
      take-bytes f count put (omega arith) ∙ bytes_front f (take at u) (b ∷ drop at u) (omega (arith, before))
      ∙ sym (bytes_front f (take at u) (drop at u) (omega (arith, before))) ∙ ap (bytes f) (take-append-drop at u)
      ∙ sym (take-bytes f (length s) u (omega arith)) ∙ ap (take f) (bytes-unpack s a)

  -- the byte with the bit
  put-middle : get_or (bytes count put) (at / 8) 0
      ≡ get_or s (at / 8)
      0 / 2 ^ (8 - at % 8) * 2 ^ (8 - at % 8) + (b * 2 ^ (7 - at % 8) + get_or s (at / 8) 0 / 2 % 2 ^ (7 - at % 8))
  unfolding put
  put-middle =
      let f : ℕ = at / 8 in
      let q : ℕ = at % 8 in
      let u : List ℕ = unpack s in
      let x : List ℕ = drop (f * 8) u in
      let e : at ≡ f * 8 + q = omega arith in
      let g : at - f * 8 ≡ q = omega arith in
      let d : drop at u ≡ drop q x = ap (λ (n : ℕ). drop n u) e ∙ sym (drop-drop q (f * 8) u) in
      let t : drop (f * 8) (take at u) ≡ take q x = drop-take (f * 8) at u ∙ ap (λ (n : ℕ). take n x) g in
      bytes-at count f put k
      ∙ ap (number 8) (drop-append-le (f * 8) (take at u) (b ∷ drop at u) (omega (arith, before))
      ∙ ap₂ (λ (p r : List ℕ). p ++ (b ∷ r)) t d)
      ∙ rw (← number-byte s a f)
      (put-number x q b (bits-drop (f * 8) u (bits-unpack s)) (omega (arith, length-drop (f * 8) u, length-unpack s))
      (omega arith))

  -- the bytes behind it are those of the string with a bit before it
  put_back : drop (at / 8 + 1) (bytes count put) ≡ drop (at / 8 + 1) (bytes count (0 ∷ unpack s))
  unfolding put
  put_back =
      let f : ℕ = at / 8 + 1 in
      let u : List ℕ = unpack s in
      let m : ℕ = f * 8 - at - 1 in
      let e : f * 8 ≡ length (take at u) + suc m = omega (arith, before) in
      let g : f * 8 ≡ suc (at + m) = omega arith in
      drop-bytes f count put
      ∙ ap (bytes (count - f))
      (ap (λ (n : ℕ). drop n put) e ∙ drop-append-add (take at u) (b ∷ drop at u) (suc m) ∙ drop-drop m at u
      ∙ sym (ap (λ (n : ℕ). drop n (0 ∷ u)) g))
      ∙ sym (drop-bytes f count (0 ∷ u))

  -- all of them
  pub put-bytes : (v : ℕ)
      → v ≡ get_or s (at / 8)
      0 / 2 ^ (8 - at % 8) * 2 ^ (8 - at % 8) + (b * 2 ^ (7 - at % 8) + get_or s (at / 8) 0 / 2 % 2 ^ (7 - at % 8))
      → take (at / 8) s ++ (v ∷ []) ++ drop (at / 8 + 1) (bytes count (0 ∷ unpack s))
      ≡ bytes count (take at (unpack s) ++ (b ∷ drop at (unpack s)))
  unfolding put
  put-bytes v e =
      let f : ℕ = at / 8 in
      let l : List ℕ = bytes count put in
      rw (e, ← put-middle, ← put_front, ← put_back, ← take-suc l f 0 (omega (arith, length-bytes count put)), add-one f)
      (take-append-drop (suc f) l)

-- ---- four bits at once

-- four bytes that are bits, the last highest, times 2 ^ 27 + 2 ^ 18 + 2 ^ 9 + 1: the bits stand side by side
side_by_side : (a b c d : ℕ) → a < 2 → b < 2 → c < 2 → d < 2
    → (a + b * 256 + (c + d * 256) * 65536) * 134480385 / 16777216 % 16 ≡ a * 8 + b * 4 + c * 2 + d
side_by_side a b c d p q r s =
    let n : ℕ = a * 8 + b * 4 + c * 2 + d in
    let over : ℕ = b * 128 + c * 32832 + d * 8405024 in
    let under : ℕ = a * 262657 + b * 131328 + c * 65536 in
    let w : ℕ = a + b * 256 + (c + d * 256) * 65536 in
    let all : w * 134480385 ≡ (over * 16 + n) * 16777216 + under = omega arith in
    let front : w * 134480385 / 16777216 ≡ over * 16 + n = omega (arith, all) in
    ap (λ (m : ℕ). m % 16) front ∙ omega arith

-- the number that bits spell, taken apart at the first
bit_then : (x : List ℕ) (i j k : ℕ) → i < length x → i + 1 ≡ j
    → number (suc k) (drop i x) ≡ get_or x i 0 * 2 ^ k + number k (drop j x)
unfolding number
bit_then x i j k h e = rw (drop-cons x i 0 h, sym e, add-one i) refl

-- four bits from a place on, read as bytes, give the number that they spell
pub number-bits : (x : List ℕ) → AllBits x → (i : ℕ) → i + 4 ≤ length x
    → (get_or x i 0 + get_or x (i + 1) 0 * 256 + (get_or x (i + 2) 0 + get_or x (i + 3) 0 * 256) * 65536) * 134480385 / 16777216
    % 16
    ≡ number 4 (drop i x)
number-bits x b i h =
    let low : (j : ℕ) → get_or x j 0 < 2 = bit_at x b in
    side_by_side (get_or x i 0) (get_or x (i + 1) 0) (get_or x (i + 2) 0) (get_or x (i + 3) 0) (low i) (low (i + 1)) (low (i + 2))
    (low (i + 3))
    ∙ omega (
      arith,
      bit_then x i (i + 1) 3 (omega arith) refl,
      bit_then x (i + 1) (i + 2) 2 (omega arith) (omega arith),
      bit_then x (i + 2) (i + 3) 1 (omega arith) (omega arith),
      bit_then x (i + 3) (i + 4) 0 (omega arith) (omega arith),
      number_lt 0 (drop (i + 4) x) (bits-drop (i + 4) x b),
    )
