-- Packing and unpacking undo each other. Assumes nothing.
use Prim.Native.Nat.{ℕ, zero, suc, ◌+◌, ◌-◌, ◌*◌, ◌/◌, ◌%◌, ◌^◌, ◌<◌, ◌≤◌}
use mathlib.Core.Path.{◌≡◌, refl, sym, ap, ap₂, ◌∙◌}
use mathlib.Core.Bool.{Bool, true, ◌&&◌}
use mathlib.Core.Logic.{⊎_elim}
use mathlib.Core.List.{List, [], ◌∷◌, ◌++◌, append_assoc}
use native.Mathlib.Decide.{ℕ_discrete}
use native.Mathlib.Nat.{zero-div, mod-eq_of_lt, div-eq_of_lt, zero-add, zero-mul, one-mul, suc-add}
use native.Mathlib.Omega.{arith}
use borrow.Author.Tests.{eq-eqb, ne_eqb, eqb-true}
use lib.Dec.{eqb}
use lib.ListN.{length, get_or, take, drop, set, get_or-append, get_or-eq_default}
use lib.Pow.{pow_pos}
use lib.Seq.{drop-append-add, drop-cons, set_at, append_snoc, get_or-drop, get_or-take, get_or-append-add, drop-drop, drop-nil, drop_at, take_at, take-append-add, take-add, length-take-le}
use Rattle.bits.specs.Bits.{AllBits, AllBytes, number, digits, bytes, bytes_for, pack, unpack, blank, fits}
use Rattle.bits.proofs.Copy.{part_next}
use Rattle.bits.proofs.Laws.{lt_or_ge, both_left, both_right, bits-drop, number_ext, number_digits, digits_number, digits-at, length_digits, length-unpack, fill}

pub bytes_of_each : (s : List ℕ) → ((i : ℕ) → get_or s i 0 < 256) → AllBytes s
bytes_of_each [] h = tt
bytes_of_each (v ∷ s) h = (h 0, bytes_of_each s (λ i. h (suc i)))

pub bytes_drop : (n : ℕ) (s : List ℕ) → AllBytes s → AllBytes (drop n s)
bytes_drop zero s a = a
bytes_drop (suc n) [] a = tt
bytes_drop (suc n) (v ∷ s) a = bytes_drop n s a.1

pub bytes_take : (n : ℕ) (s : List ℕ) → AllBytes s → AllBytes (take n s)
bytes_take zero s a = tt
bytes_take (suc n) [] a = tt
bytes_take (suc n) (v ∷ s) a = (a.0, bytes_take n s a.1)

pub bytes_snoc : (s : List ℕ) (b : ℕ) → AllBytes s → b < 256 → AllBytes (s ++ (b ∷ []))
bytes_snoc [] b a h = (h, tt)
bytes_snoc (v ∷ s) b a h = (a.0, bytes_snoc s b a.1 h)

-- ---- the bit at a place
pub unpack-at : (s : List ℕ) (i : ℕ) → get_or (unpack s) i 0 ≡ get_or s (i / 8) 0 / 2 ^ (7 - i % 8) % 2
unfolding unpack
unpack-at [] i = sym (ap (λ (q : ℕ). q % 2) (zero-div (2 ^ (7 - i % 8))))
unpack-at (v ∷ s) i = ⊎_elim (inside v s i) (λ h. outside v s i h (unpack-at s (i - 8))) (lt_or_ge i 8)
  where
    inside : (v : ℕ) (s : List ℕ) (i : ℕ) → i < 8
        → get_or (digits 8 v ++ unpack s) i 0 ≡ get_or (v ∷ s) (i / 8) 0 / 2 ^ (7 - i % 8) % 2
    inside v s i h =
        let e : 8 - (i + 1) ≡ 7 - i = omega arith in
        let l : i < length (digits 8 v) = omega (arith, length_digits 8 v) in
        rw (get_or-append (digits 8 v) (unpack s) 0 i l, digits-at 8 v i h, e, div-eq_of_lt h, mod-eq_of_lt h) refl

    outside : (v : ℕ) (s : List ℕ) (i : ℕ) → 8 ≤ i
        → get_or (unpack s) (i - 8) 0 ≡ get_or s ((i - 8) / 8) 0 / 2 ^ (7 - (i - 8) % 8) % 2
        → get_or (digits 8 v ++ unpack s) i 0 ≡ get_or (v ∷ s) (i / 8) 0 / 2 ^ (7 - i % 8) % 2
    outside v s i h r =
        let e : i ≡ 8 + (i - 8) = omega arith in
        let d : i / 8 ≡ suc ((i - 8) / 8) = omega arith in
        let m : i % 8 ≡ (i - 8) % 8 = omega arith in
        let l : i ≡ length (digits 8 v) + (i - 8) = omega (arith, length_digits 8 v) in
        rw (d, m) (ap (λ (n : ℕ). get_or (digits 8 v ++ unpack s) n 0) l
        ∙ get_or-append-add (digits 8 v) (unpack s) (i - 8) 0 ∙ r)

-- byte i has the bits from 8 × i on
unpack-next : (s : List ℕ) (i : ℕ) → i < length s
    → take (i * 8 + 8) (unpack s) ≡ take (i * 8) (unpack s) ++ digits 8 (get_or s i 0)
unfolding unpack
unpack-next [] i h = absurd (omega arith)
unpack-next (v ∷ s) zero h = take_at (digits 8 v) (unpack s) 8 (length_digits 8 v)
unpack-next (v ∷ s) (suc i) h =
    let d : List ℕ = digits 8 v in
    let n : length (digits 8 v) ≡ 8 = length_digits 8 v in
    let e : suc i * 8 + 8 ≡ length d + (i * 8 + 8) = omega arith in
    let f : suc i * 8 ≡ length d + i * 8 = omega arith in
    rw (e, f, take-append-add d (unpack s), take-append-add d (unpack s), append_assoc)
    (ap (λ (t : List ℕ). d ++ t) (unpack-next s i (omega arith)))

-- a slice q that holds the bits of i bytes, with those of the next byte behind them
pub byte_unpacked : (s o q : List ℕ) (i : ℕ) → i < length s → q ≡ take (i * 8) (unpack s) ++ drop (i * 8) o
    → take (i * 8) q ++ digits 8 (get_or s i 0) ++ drop (i * 8 + 8) q
    ≡ take ((i + 1) * 8) (unpack s) ++ drop ((i + 1) * 8) o
byte_unpacked s o q i h e =
    let n : (i + 1) * 8 ≡ i * 8 + 8 = omega arith in
    rw (e, n) (part_next (take (i * 8) (unpack s)) (digits 8 (get_or s i 0)) o (i * 8) 8
    (length-take-le (i * 8) (unpack s) (omega (arith, length-unpack s)))
    ∙ ap (λ (t : List ℕ). t ++ drop (i * 8 + 8) o) (sym (unpack-next s i h)))

-- a slice q that holds the first n bits, with those up to w behind them
pub all_unpacked : (s o q : List ℕ) (n w : ℕ) → n ≤ w → n ≤ length s * 8 → q ≡ take n (unpack s) ++ drop n o
    → take n q ++ take (w - n) (drop n (unpack s)) ++ drop (n + (w - n)) q ≡ take w (unpack s) ++ drop w o
all_unpacked s o q n w h k e =
    let f : n + (w - n) ≡ w = omega arith in
    let u : List ℕ = unpack s in
    rw e
    (part_next (take n u) (take (w - n) (drop n u)) o n (w - n) (length-take-le n u (omega (arith, length-unpack s)))
    ∙ ap₂ (λ (a b : List ℕ). a ++ b) (sym (take-add n (w - n) u) ∙ ap (λ (m : ℕ). take m u) f)
    (ap (λ (m : ℕ). drop m o) f))

-- ---- packing
pub bytes_ext : (n : ℕ) (x y : List ℕ) → ((i : ℕ) → get_or x i 0 ≡ get_or y i 0) → bytes n x ≡ bytes n y
unfolding bytes
bytes_ext zero x y h = refl
bytes_ext (suc n) x y h =
    ap₂ (λ (v : ℕ) (s : List ℕ). v ∷ s) (number_ext 8 x y h)
    (bytes_ext n (drop 8 x) (drop 8 y) (λ i. get_or-drop 8 x i 0 ∙ h (8 + i) ∙ sym (get_or-drop 8 y i 0)))

pub length-bytes : (n : ℕ) (x : List ℕ) → length (bytes n x) ≡ n
unfolding bytes
length-bytes zero x = refl
length-bytes (suc n) x = ap suc (length-bytes n (drop 8 x))

pub length-pack : (x : List ℕ) → length (pack x) ≡ bytes_for (length x)
unfolding pack
length-pack x = length-bytes (bytes_for (length x)) x

-- byte i is made of the bits from 8 × i on
pub bytes-at : (n i : ℕ) (x : List ℕ) → i < n → get_or (bytes n x) i 0 ≡ number 8 (drop (i * 8) x)
unfolding bytes
bytes-at zero i x h = absurd (omega arith)
bytes-at (suc n) zero x h = refl
bytes-at (suc n) (suc i) x h =
    let e : suc i * 8 ≡ 8 + i * 8 = omega arith in
    bytes-at n i (drop 8 x) (omega arith) ∙ ap (number 8) (drop-drop (i * 8) 8 x ∙ ap (λ (k : ℕ). drop k x) (sym e))

bytes-more : (n : ℕ) (x : List ℕ) → bytes (suc n) x ≡ bytes n x ++ (number 8 (drop (n * 8) x) ∷ [])
unfolding bytes
bytes-more zero x = refl
bytes-more (suc n) x =
    let e : suc n * 8 ≡ 8 + n * 8 = omega arith in
    ap (λ (l : List ℕ). number 8 x ∷ l)
    (bytes-more n (drop 8 x)
    ∙ ap (λ (y : List ℕ). bytes n (drop 8 x) ++ (number 8 y ∷ []))
    (drop-drop (n * 8) 8 x ∙ ap (λ (k : ℕ). drop k x) (sym e)))

-- a string of whole bytes is packed by them
pub packed-whole : (x o : List ℕ) → length x ≤ length x / 8 * 8
    → bytes (length x / 8) x ++ drop (length x / 8) o ≡ pack x ++ drop (bytes_for (length x)) o
unfolding pack
packed-whole x o h =
    let e : length x / 8 ≡ bytes_for (length x) = omega arith in
    rw e refl

-- any other has one byte more
pub packed-rest : (x o : List ℕ) → length x / 8 * 8 < length x → bytes_for (length x) ≤ length o
    → set (bytes (length x / 8) x ++ drop (length x / 8) o) (length x / 8) (number 8 (drop (length x / 8 * 8) x))
    ≡ pack x ++ drop (bytes_for (length x)) o
unfolding pack
packed-rest x o h k =
    let n : ℕ = length x / 8 in
    let v : ℕ = number 8 (drop (n * 8) x) in
    let e : bytes_for (length x) ≡ suc n = omega arith in
    ap (λ (t : List ℕ). set (bytes n x ++ t) n v) (drop-cons o n 0 (omega arith))
    ∙ set_at (bytes n x) (get_or o n 0) (drop (suc n) o) v n (length-bytes n x)
    ∙ sym (append_snoc (bytes n x) v (drop (suc n) o))
    ∙ ap (λ (l : List ℕ). l ++ drop (suc n) o) (sym (bytes-more n x))
    ∙ ap (λ (k : ℕ). bytes k x ++ drop k o) (sym e)

-- ---- unpacking what was packed
fill_add : (k m : ℕ) (x : List ℕ) → fill k x ++ fill m (drop k x) ≡ fill (k + m) x
unfolding fill
fill_add zero m x = rw (zero-add m) refl
fill_add (suc k) m [] =
    rw (suc-add k m)
    (ap (λ (l : List ℕ). 0 ∷ l) (ap (λ (l : List ℕ). fill k [] ++ fill m l) (sym (drop-nil k)) ∙ fill_add k m []))
fill_add (suc k) m (b ∷ x) = rw (suc-add k m) (ap (λ (l : List ℕ). b ∷ l) (fill_add k m x))

unpack-bytes : (n : ℕ) (x : List ℕ) → AllBits x → unpack (bytes n x) ≡ fill (n * 8) x
unfolding unpack bytes fill
unpack-bytes zero x a = refl
unpack-bytes (suc n) x a =
    let e : suc n * 8 ≡ 8 + n * 8 = omega arith in
    rw e (ap₂ (λ (p q : List ℕ). p ++ q) (digits_number 8 x a) (unpack-bytes n (drop 8 x) (bits-drop 8 x a))
    ∙ fill_add 8 (n * 8) x)

blank_fill : (k : ℕ) → blank (fill k []) ≡ true
unfolding blank fill
blank_fill zero = refl
blank_fill (suc k) = blank_fill k

take_fill : (n : ℕ) (x : List ℕ) → length x ≤ n → take (length x) (fill n x) ≡ x
unfolding fill
take_fill n [] h = refl
take_fill zero (b ∷ x) h = absurd (omega arith)
take_fill (suc n) (b ∷ x) h = ap (λ (l : List ℕ). b ∷ l) (take_fill n x (omega arith))

drop_fill : (n : ℕ) (x : List ℕ) → length x ≤ n → blank (drop (length x) (fill n x)) ≡ true
unfolding fill
drop_fill n [] h = blank_fill n
drop_fill zero (b ∷ x) h = absurd (omega arith)
drop_fill (suc n) (b ∷ x) h = drop_fill n x (omega arith)

-- the bits of a packed string are the string
pub unpack-pack : (x : List ℕ) → AllBits x → take (length x) (unpack (pack x)) ≡ x
unfolding pack
unpack-pack x a = rw (unpack-bytes (bytes_for (length x)) x a) (take_fill (bytes_for (length x) * 8) x (omega arith))

-- a packed string has the bytes that it needs, and no spare bit 1
pub fits-pack : (x : List ℕ) → AllBits x → fits (length x) (pack x) ≡ true
unfolding fits pack
fits-pack x a =
    rw (
      eq-eqb (length (bytes (bytes_for (length x)) x)) (bytes_for (length x)) (length-bytes (bytes_for (length x)) x),
      unpack-bytes (bytes_for (length x)) x a,
    )
    (drop_fill (bytes_for (length x) * 8) x (omega arith))

-- ---- packing what was unpacked
blank-at : (x : List ℕ) → blank x ≡ true → (i : ℕ) → get_or x i 0 ≡ 0
unfolding blank
blank-at [] e i = refl
blank-at (b ∷ x) e zero = eqb-true b 0 (both_left (eqb b 0) (blank x) e)
blank-at (b ∷ x) e (suc i) = blank-at x (both_right (eqb b 0) (blank x) e) i

-- zeros behind a string do not matter to its bytes
pub bytes-blank : (n : ℕ) (x z : List ℕ) → blank z ≡ true → bytes n (x ++ z) ≡ bytes n x
bytes-blank n x z e =
    bytes_ext n (x ++ z) x (λ i. ⊎_elim (λ h. get_or-append x z 0 i h) (beyond i) (lt_or_ge i (length x)))
  where
    beyond : (i : ℕ) → length x ≤ i → get_or (x ++ z) i 0 ≡ get_or x i 0
    beyond i h =
        let k : i ≡ length x + (i - length x) = omega arith in
        ap (λ (n : ℕ). get_or (x ++ z) n 0) k ∙ get_or-append-add x z (i - length x) 0 ∙ blank-at z e (i - length x)
        ∙ sym (get_or-eq_default x 0 h)

-- the bits from byte n on
pub unpack-drop : (n : ℕ) (s : List ℕ) → unpack (drop n s) ≡ drop (n * 8) (unpack s)
unfolding unpack
unpack-drop zero s = refl
unpack-drop (suc n) [] = rw (drop-nil (suc n * 8)) refl
unpack-drop (suc n) (v ∷ s) =
    let e : suc n * 8 ≡ length (digits 8 v) + n * 8 = omega (arith, length_digits 8 v) in
    rw (e, drop-append-add (digits 8 v) (unpack s) (n * 8)) (unpack-drop n s)

-- ---- the spare bits
-- bits are all zero just where they spell 0
pub blank-number : (k : ℕ) (x : List ℕ) → AllBits x → length x ≡ k → blank x ≡ eqb (number k x) 0
unfolding blank number
blank-number zero [] a e = refl
blank-number (suc k) [] a e = absurd (omega arith)
blank-number zero (b ∷ x) a e = absurd (omega arith)
blank-number (suc k) (b ∷ x) a e = go (ℕ_discrete b 0) (blank-number k x a.1 (omega arith))
  where
    go : Dec (b ≡ 0) → blank x ≡ eqb (number k x) 0 → eqb b 0 && blank x ≡ eqb (b * 2 ^ k + number k x) 0
    go (yes q) r = rw (q, zero-mul, zero-add) r
    go (no q) r =
        let one : b ≡ 1 = omega (arith, a.0) in
        let some : b * 2 ^ k + number k x ≡ 0 → ⊥ = λ h. omega (arith, pow_pos k, rw (one, one-mul) at h) in
        rw (ne_eqb b 0 q, ne_eqb (b * 2 ^ k + number k x) 0 some) refl

-- where the byte count is right, the spare bits decide
pub fits_by : (w : ℕ) (s : List ℕ) (b : Bool) → length s ≡ bytes_for w → blank (drop w (unpack s)) ≡ b → b ≡ fits w s
unfolding fits
fits_by w s b e h = rw (eq-eqb (length s) (bytes_for w) e) (sym h)

pub fits-length : (w : ℕ) (s : List ℕ) → fits w s ≡ true → length s ≡ bytes_for w
unfolding fits
fits-length w s e =
    eqb-true (length s) (bytes_for w) (both_left (eqb (length s) (bytes_for w)) (blank (drop w (unpack s))) e)

pub fits-blank : (w : ℕ) (s : List ℕ) → fits w s ≡ true → blank (drop w (unpack s)) ≡ true
unfolding fits
fits-blank w s e = both_right (eqb (length s) (bytes_for w)) (blank (drop w (unpack s))) e

pub bytes-unpack : (s : List ℕ) → AllBytes s → bytes (length s) (unpack s) ≡ s
unfolding bytes unpack
bytes-unpack [] a = refl
bytes-unpack (v ∷ s) a =
    ap₂ (λ (b : ℕ) (l : List ℕ). b ∷ l) (number_digits 8 v (unpack s) ∙ mod-eq_of_lt a.0)
    (ap (bytes (length s)) (drop_at (digits 8 v) (unpack s) 8 (length_digits 8 v)) ∙ bytes-unpack s a.1)

-- a string of w bits as long as it should be
pub length_string : (w : ℕ) (s : List ℕ) → fits w s ≡ true → length (take w (unpack s)) ≡ w
length_string w s e = length-take-le w (unpack s) (omega (arith, length-unpack s, fits-length w s e))

-- bytes that are fit for w bits are those bits, packed
pub pack-unpack : (w : ℕ) (s : List ℕ) → AllBytes s → fits w s ≡ true → pack (take w (unpack s)) ≡ s
unfolding pack
pack-unpack w s a e =
    rw (length_string w s e, ← fits-length w s e)
    (bytes_ext (length s) (take w (unpack s)) (unpack s) same ∙ bytes-unpack s a)
  where
    same : (i : ℕ) → get_or (take w (unpack s)) i 0 ≡ get_or (unpack s) i 0
    same i = ⊎_elim (λ h. get_or-take w (unpack s) i 0 h) beyond (lt_or_ge i w)
      where
        beyond : w ≤ i → get_or (take w (unpack s)) i 0 ≡ get_or (unpack s) i 0
        beyond h =
            let k : w + (i - w) ≡ i = omega arith in
            get_or-eq_default (take w (unpack s)) 0 (omega (arith, length_string w s e))
            ∙ sym (ap (λ (n : ℕ). get_or (unpack s) n 0) (sym k) ∙ sym (get_or-drop w (unpack s) (i - w) 0)
            ∙ blank-at (drop w (unpack s)) (fits-blank w s e) (i - w))
