-- Bits put into packed bytes: digits in parts, a byte that is whole, the last bits, and one filling after another.
-- Assumes nothing.
use Prim.Native.Nat.{ℕ, zero, suc, ◌+◌, ◌-◌, ◌*◌, ◌/◌, ◌%◌, ◌^◌, ◌<◌, ◌≤◌}
use mathlib.Core.Path.{◌≡◌, refl, sym, ap, ap₂, ◌∙◌}
use mathlib.Core.Bool.{true}
use mathlib.Core.List.{List, [], ◌∷◌, ◌++◌, append_assoc, append-nil}
use native.Mathlib.Nat.{add_comm, add-zero, zero-add, suc-add, zero-div, mod-lt}
use native.Mathlib.Numerals.{add-one}
use native.Mathlib.Omega.{arith}
use lib.ListN.{length, take, drop, set, length-append, take-append-drop}
use lib.Pow.{pow_pos, shr-shr, split, high}
use lib.Seq.{drop-drop, length-take-le, set_split, take-suc-set}
use Rattle.bits.specs.Bits.{AllBytes, digits, bytes, bytes_for, pack, unpack, blank}
use Rattle.bits.specs.Filling.{filled, Ready, Goes}
use Rattle.bits.specs.declared.Filler.{Filler}
use Rattle.bits.proofs.Laws.{digits_above, length_digits, length-unpack}
use Rattle.bits.proofs.Packing.{bytes-blank, bytes-unpack}

-- ---- digits in parts
digits_split : (a c v : ℕ) → digits (a + c) v ≡ digits a (v / 2 ^ c) ++ digits c v
unfolding digits
digits_split zero c v = rw (zero-add c) refl
digits_split (suc a) c v =
    rw (suc-add a c, shr-shr v c a, add_comm c a) (ap (λ (x : List ℕ). v / 2 ^ (a + c) % 2 ∷ x) (digits_split a c v))

-- higher digits do not matter
pub digits_low : (k v : ℕ) → digits k (v % 2 ^ k) ≡ digits k v
digits_low k v = sym (digits_above k (v / 2 ^ k) (v % 2 ^ k)) ∙ ap (digits k) (split v k)

-- the digits of two numbers as those of one
pub digits_join : (c h k v : ℕ) → digits (c + k) (h * 2 ^ k + v % 2 ^ k) ≡ digits c h ++ digits k v
digits_join c h k v =
    digits_split c k (h * 2 ^ k + v % 2 ^ k)
    ∙ ap₂ (λ (x y : List ℕ). x ++ y) (ap (digits c) (high h k (mod-lt v (pow_pos k))))
    (digits_above k h (v % 2 ^ k) ∙ digits_low k v)

-- ---- a byte that is whole
unpack_snoc : (s : List ℕ) (b : ℕ) → unpack (s ++ (b ∷ [])) ≡ unpack s ++ digits 8 b
unfolding unpack
unpack_snoc [] b = append-nil (digits 8 b)
unpack_snoc (v ∷ s) b =
    ap (λ (x : List ℕ). digits 8 v ++ x) (unpack_snoc s b) ∙ sym (append_assoc (digits 8 v) (unpack s) (digits 8 b))

pub byte_out : (o : List ℕ) (at n v : ℕ) → at < length o → 8 ≤ n
    → unpack (take (at + 1) (set o at (v / 2 ^ (n - 8) % 256))) ++ digits (n - 8) v ≡ unpack (take at o) ++ digits n v
byte_out o at n v h k =
    let c : ℕ = n - 8 in
    let b : ℕ = v / 2 ^ c % 256 in
    let e : 8 + c ≡ n = omega arith in
    rw (
      add-one at,
      take-suc-set o at b h,
      unpack_snoc (take at o) b,
      append_assoc (unpack (take at o)) (digits 8 b) (digits c v),
    )
    (ap (λ (x : List ℕ). unpack (take at o) ++ x)
    (ap (λ (x : List ℕ). x ++ digits c v) (digits_low 8 (v / 2 ^ c)) ∙ sym (digits_split 8 c v)
    ∙ ap (λ (m : ℕ). digits m v) e))

-- ---- the last bits
digits-none : (k : ℕ) → blank (digits k 0) ≡ true
unfolding digits blank
digits-none zero = refl
digits-none (suc k) = rw (zero-div (2 ^ k)) (digits-none k)

length-filled : (o : List ℕ) (at c h : ℕ) → at ≤ length o → length (unpack (take at o) ++ digits c h) ≡ at * 8 + c
length-filled o at c h k =
    length-append (unpack (take at o)) (digits c h)
    ∙ omega (arith, length-unpack (take at o), length-take-le at o k, length_digits c h)

-- where none is held
pub end_whole : (o : List ℕ) (at h : ℕ) → AllBytes (take at o) → at ≤ length o
    → o ≡ pack (unpack (take at o) ++ digits 0 h) ++ drop (bytes_for (at * 8 + 0)) o
unfolding pack digits
end_whole o at h a k =
    let s : List ℕ = take at o in
    let e : bytes_for (at * 8 + 0) ≡ at = omega arith in
    let n : length (unpack s ++ []) ≡ at * 8 + 0 = length-filled o at 0 h k in
    let p : bytes at (unpack s) ≡ s = rw (length-take-le at o k) at (bytes-unpack s a) in
    rw (n, e, append-nil (unpack s), p) (sym (take-append-drop at o))

-- where some are held: they fill a byte with zeros
pub end_part : (o : List ℕ) (at c h : ℕ) → AllBytes (take at o ++ (h * 2 ^ (8 - c) ∷ [])) → at < length o → 0 < c → c < 8
    → set o at (h * 2 ^ (8 - c)) ≡ pack (unpack (take at o) ++ digits c h) ++ drop (bytes_for (at * 8 + c)) o
unfolding pack
end_part o at c h a k l m =
    let d : ℕ = 8 - c in
    let b : ℕ = h * 2 ^ d in
    let s : List ℕ = take at o ++ (b ∷ []) in
    let x : List ℕ = unpack (take at o) ++ digits c h in
    let e : bytes_for (at * 8 + c) ≡ suc at = omega arith in
    let w : 8 ≡ c + d = omega arith in
    let z : digits d b ≡ digits d 0 = ap (digits d) (sym (add-zero b)) ∙ digits_above d h 0 in
    let g : digits 8 b ≡ digits c h ++ digits d 0 =
    ap (λ (n : ℕ). digits n b) w ∙ digits_split c d b
    ∙ ap₂ (λ (p q : List ℕ). p ++ q)
    (ap (λ (n : ℕ). digits c (n / 2 ^ d)) (sym (add-zero b)) ∙ ap (digits c) (high h d (pow_pos d))) z
    in
    let u : unpack s ≡ x ++ digits d 0 =
    unpack_snoc (take at o) b ∙ ap (λ (y : List ℕ). unpack (take at o) ++ y) g
    ∙ sym (append_assoc (unpack (take at o)) (digits c h) (digits d 0)) in
    let n : length s ≡ suc at = length-append (take at o) (b ∷ []) ∙ omega (arith, length-take-le at o (omega arith)) in
    let p : bytes (suc at) x ≡ s =
    sym (bytes-blank (suc at) x (digits d 0) (digits-none d)) ∙ ap (bytes (suc at)) (sym u) ∙ (rw n at (bytes-unpack s a))
    in
    let q : bytes_for (length x) ≡ suc at = ap bytes_for (length-filled o at c h (omega arith)) ∙ e in
    set_split o at b k ∙ sym (append_assoc (take at o) (b ∷ []) (drop (suc at) o))
    ∙ ap₂ (λ (u v : List ℕ). u ++ v) (sym p ∙ ap (λ (m : ℕ). bytes m x) (sym q)) (ap (λ (m : ℕ). drop m o) (sym e))

-- ---- one filling after another
pub goes_none : (f : Filler) (o : List ℕ) → Ready f → Goes f o [] f o
goes_none f o r =
    record { ready = r; place = omega arith; taken = sym (append-nil (filled f o)); rest = refl; long = refl }

-- what is the same from a place on is the same from a later place on
pub drop-later : (n m : ℕ) (a b : List ℕ) → n ≤ m → drop n b ≡ drop n a → drop m b ≡ drop m a
drop-later n m a b h e =
    let k : n + (m - n) ≡ m = omega arith in
    ap (λ (i : ℕ). drop i b) (sym k) ∙ sym (drop-drop (m - n) n b) ∙ ap (drop (m - n)) e ∙ drop-drop (m - n) n a
    ∙ ap (λ (i : ℕ). drop i a) k

pub goes_then : {f g h : Filler} {a b c x y : List ℕ} → Goes f a x g b → Goes g b y h c → Goes f a (x ++ y) h c
goes_then {f} {g} {h} {a} {b} {c} {x} {y} p q =
    record {
      ready = q.ready;
      place = omega (arith, p.place, q.place, length-append x y);
      taken = q.taken ∙ ap (λ (z : List ℕ). z ++ y) p.taken ∙ append_assoc (filled f a) x y;
      rest = q.rest ∙ drop-later g.at h.at a b (omega (arith, q.place, q.ready.0)) p.rest;
      long = q.long ∙ p.long;
    }
