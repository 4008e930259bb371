-- Rows and numbers as text: how long they are, and how they grow. Assumes nothing.
use Prim.Native.Nat.{ℕ, zero, suc, ◌+◌, ◌*◌, ◌/◌, ◌%◌, ◌^◌, ◌<◌, ◌≤◌}
use mathlib.Core.Path.{◌≡◌, refl, sym, ap, ◌∙◌}
use mathlib.Core.Bool.{Bool, true, false, cond}
use mathlib.Core.List.{List, [], ◌∷◌, ◌++◌, append_assoc, append-nil, flat_map}
use native.Mathlib.Nat.{suc-mul, zero-mul, add_comm, pow-suc}
use native.Mathlib.Numerals.{add-one}
use native.Mathlib.Omega.{arith}
use borrow.Author.Tests.{lt-ltb, le-ltb, ltb-true, ltb-false}
use lib.Dec.{ltb}
use lib.ListN.{length, take, drop, get_or, length-append, length-drop}
use lib.Seq.{take-suc, length-take-le, drop-drop}
use Rattle.bits.specs.Bits.{cut}
use Rattle.rowtext.specs.Text.{hex_byte, row_line, line_feed, last_digits, decimal, Put}

-- ---- rows
flat_append : {A : Type 0} (f : A → List ℕ) (a b : List A) → flat_map f (a ++ b) ≡ flat_map f a ++ flat_map f b
unfolding flat_map
flat_append f [] b = refl
flat_append f (x ∷ a) b =
    ap (λ (t : List ℕ). f x ++ t) (flat_append f a b) ∙ sym (append_assoc (f x) (flat_map f a) (flat_map f b))

flat-one : {A : Type 0} (f : A → List ℕ) (x : A) → flat_map f (x ∷ []) ≡ f x
unfolding flat_map
flat-one f x = append-nil (f x)

pub length_hex : (row : List ℕ) → length (flat_map hex_byte row) ≡ length row * 2
unfolding flat_map
length_hex [] = refl
length_hex (b ∷ row) = omega (arith, length_hex row)

pub length-line : (row : List ℕ) → length (row_line row) ≡ length row * 2 + 1
unfolding row_line
length-line row = length-append (flat_map hex_byte row) line_feed ∙ omega (arith, length_hex row)

-- one byte more
pub hex_next : (row : List ℕ) (i : ℕ) → i < length row
    → flat_map hex_byte (take i row) ++ hex_byte (get_or row i 0) ≡ flat_map hex_byte (take (i + 1) row)
hex_next row i h =
    sym
    (ap (flat_map hex_byte) (rw (add-one i) (take-suc row i 0 h))
    ∙ flat_append hex_byte (take i row) (get_or row i 0 ∷ [])
    ∙ ap (λ (t : List ℕ). flat_map hex_byte (take i row) ++ t) (flat-one hex_byte (get_or row i 0)))

-- the place after the digits of i bytes
pub hex_place : (row : List ℕ) (i : ℕ) {entry now : List ℕ} {at next : ℕ} → i ≤ length row
    → Put (flat_map hex_byte (take i row)) at entry now next → next ≡ at + i * 2
hex_place row i h p = omega (arith, p.after, length_hex (take i row), length-take-le i row h)

-- one row more
cut-next : (w i : ℕ) (s : List ℕ) → cut (suc i) w s ≡ cut i w s ++ (take w (drop (i * w) s) ∷ [])
unfolding cut
cut-next w zero s = rw (zero-mul w) refl
cut-next w (suc i) s =
    let n : w + i * w ≡ suc i * w = sym (suc-mul i w ∙ add_comm (i * w) w) in
    let e : drop (i * w) (drop w s) ≡ drop (suc i * w) s = drop-drop (i * w) w s ∙ ap (λ (k : ℕ). drop k s) n in
    ap (λ (t : List (List ℕ)). take w s ∷ t)
    (cut-next w i (drop w s) ∙ ap (λ (t : List ℕ). cut i w (drop w s) ++ (take w t ∷ [])) e)

pub rows_next : (w i : ℕ) (s : List ℕ)
    → flat_map row_line (cut i w s) ++ row_line (take w (drop (i * w) s)) ≡ flat_map row_line (cut (i + 1) w s)
rows_next w i s =
    let r = take w (drop (i * w) s) in
    sym
    (ap (flat_map row_line) (rw (add-one i) (cut-next w i s))
    ∙ flat_append row_line (cut i w s) (r ∷ [])
    ∙ ap (λ (t : List ℕ). flat_map row_line (cut i w s) ++ t) (flat-one row_line r))

-- i rows take i lines of one length
pub length-rows : (w i : ℕ) (s : List ℕ) → i * w ≤ length s → length (flat_map row_line (cut i w s)) ≡ i * (w * 2 + 1)
unfolding cut flat_map
length-rows w zero s h = sym (zero-mul (w * 2 + 1))
length-rows w (suc i) s h =
    let n : length (take w s) ≡ w = length-take-le w s (omega (arith, suc-mul i w)) in
    let r : i * w ≤ length (drop w s) = simp length-drop (omega (arith, suc-mul i w)) in
    length-append (row_line (take w s)) (flat_map row_line (cut i w (drop w s)))
    ∙ omega (arith, length-line (take w s), length-rows w i (drop w s) r, suc-mul i (w * 2 + 1))

-- the place after i rows
pub rows-place : (w i : ℕ) (s : List ℕ) {entry now : List ℕ} {at next : ℕ} → i * w ≤ length s
    → Put (flat_map row_line (cut i w s)) at entry now next → next ≡ at + i * (w * 2 + 1)
rows-place w i s h p = omega (arith, p.after, length-rows w i s h)

-- ---- numbers
-- any number of digits that is large enough gives the same
enough_digits : (f g n : ℕ) → n < f → n < g → last_digits f n ≡ last_digits g n
unfolding last_digits
enough_digits zero g n h k = absurd (omega arith)
enough_digits (suc f) zero n h k = absurd (omega arith)
enough_digits (suc f) (suc g) n h k = go (ltb n 10) refl (enough_digits f g (n / 10))
  where
    go : (t : Bool) → ltb n 10 ≡ t → (n / 10 < f → n / 10 < g → last_digits f (n / 10) ≡ last_digits g (n / 10))
        → cond t ((48 + n) ∷ []) (last_digits f (n / 10) ++ ((48 + n % 10) ∷ []))
        ≡ cond t ((48 + n) ∷ []) (last_digits g (n / 10) ++ ((48 + n % 10) ∷ []))
    go true e same = refl
    go false e same =
        let l = ltb-false n 10 e in
        ap (λ (ds : List ℕ). ds ++ ((48 + n % 10) ∷ [])) (same (omega arith) (omega arith))

-- a number below ten is its one digit
pub decimal-one : (n : ℕ) → n < 10 → decimal n ≡ (48 + n) ∷ []
unfolding decimal last_digits
decimal-one n h = rw (lt-ltb n 10 h) refl

-- any other is that of its tens, and its last digit
pub decimal-more : (n : ℕ) → 10 ≤ n → decimal n ≡ decimal (n / 10) ++ ((48 + n % 10) ∷ [])
unfolding decimal last_digits
decimal-more n h =
    rw (le-ltb n 10 h)
    (ap (λ (ds : List ℕ). ds ++ ((48 + n % 10) ∷ []))
    (enough_digits n (suc (n / 10)) (n / 10) (omega arith) (omega arith)))

pub length_more : (n : ℕ) → 10 ≤ n → length (decimal n) ≡ length (decimal (n / 10)) + 1
length_more n h = ap length (decimal-more n h) ∙ length-append (decimal (n / 10)) ((48 + n % 10) ∷ [])

-- a number below 10 ^ k has at most k digits
pub decimal-short : (k n : ℕ) → n < 10 ^ suc k → length (decimal n) ≤ suc k
decimal-short zero n h = rw (decimal-one n (omega arith)) (omega arith)
decimal-short (suc k) n h = go (ltb n 10) refl (decimal-short k (n / 10))
  where
    go : (t : Bool) → ltb n 10 ≡ t → (n / 10 < 10 ^ suc k → length (decimal (n / 10)) ≤ suc k)
        → length (decimal n) ≤ suc (suc k)
    go true e tens = rw (decimal-one n (ltb-true n 10 e)) (omega arith)
    go false e tens =
        let p : n < 10 ^ suc k * 10 = rw (pow-suc 10 (suc k)) at h in
        omega (arith, length_more n (ltb-false n 10 e), tens (omega arith))

-- a word and a number below a hundred thousand make a line of at most six characters more than the word
pub header_short : (word : List ℕ) (n : ℕ) → n < 100000 → length (word ++ decimal n ++ line_feed) ≤ length word + 6
header_short word n h =
    omega (arith, length-append (word ++ decimal n) line_feed, length-append word (decimal n), decimal-short 4 n h)
