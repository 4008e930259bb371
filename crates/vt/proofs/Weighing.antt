-- The table of the weights, and the total and the ones of packed bits byte by byte. Assumes nothing.
use Prim.Native.Nat.{ℕ, zero, suc, ◌+◌, ◌-◌, ◌*◌, ◌/◌, ◌%◌, ◌<◌, ◌≤◌}
use mathlib.Core.Path.{◌≡◌, refl, sym, ap, ◌∙◌}
use mathlib.Core.Bool.{true}
use mathlib.Core.List.{List, [], ◌∷◌, ◌++◌}
use native.Mathlib.Nat.{zero-add, add-zero, add-suc, mul-zero}
use native.Mathlib.Omega.{arith}
use lib.Arith.{digits_div, digits_mod}
use lib.ListN.{length, get_or, take, drop, length-drop, take-append-drop}
use borrow.Author.Tests.{eqb-true}
use lib.Dec.{eqb}
use lib.Seq.{drop-append-add, drop-append-le, drop-drop, drop-nil, length-take-le, take_all, take_at}
use Rattle.bits.specs.Bits.{digits, unpack, blank}
use Rattle.bits.proofs.Laws.{length_digits, length-unpack, both_left, both_right}
use Rattle.vt.specs.Ones.{ones}
use Rattle.vt.specs.Sum.{total}
use Rattle.vt.specs.Weights.{weight, weights_from, weights}
use Rattle.vt.proofs.Totals.{total_up}

-- ---- the table
weight-from : (b k i : ℕ) → i < k → get_or (weights_from b k) i 0 ≡ weight (b + i)
unfolding weights_from
weight-from b zero i h = absurd (omega arith)
weight-from b (suc k) zero h = rw (add-zero b) refl
weight-from b (suc k) (suc i) h = weight-from (suc b) k i (omega arith) ∙ ap weight (omega arith)

pub weight-at : (b : ℕ) → b < 256 → get_or weights b 0 ≡ weight b
unfolding weights
weight-at b h = weight-from 0 256 b h ∙ ap weight (zero-add b)

-- a byte has eight bits
pub byte-ones : (b : ℕ) → ones (digits 8 b) ≤ 8
unfolding ones digits
byte-ones b = omega arith

pub byte-total : (b : ℕ) → total 1 (digits 8 b) ≤ 36
unfolding total digits
byte-total b = omega arith

pub weight-ones : (b : ℕ) → weight b / 64 ≡ ones (digits 8 b)
unfolding weight
weight-ones b = digits_div (ones (digits 8 b)) (omega (arith, byte-total b))

pub weight-total : (b : ℕ) → weight b % 64 ≡ total 1 (digits 8 b)
unfolding weight
weight-total b = digits_mod (ones (digits 8 b)) (omega (arith, byte-total b))

-- ---- two strings one behind the other
pub ones-append : (x y : List ℕ) → ones (x ++ y) ≡ ones x + ones y
unfolding ones
ones-append [] y = sym (zero-add (ones y))
ones-append (b ∷ x) y = omega (arith, ones-append x y)

pub total-append : (i : ℕ) (x y : List ℕ) → total i (x ++ y) ≡ total i x + total (i + length x) y
unfolding total
total-append i [] y = rw (add-zero i) (sym (zero-add (total i y)))
total-append i (b ∷ x) y = let e : i + suc (length x) ≡ suc i + length x = omega arith in
    rw e (omega (arith, total-append (suc i) x y))

-- the ones from a place on, taken apart behind some bits
pub ones_part : (x : List ℕ) (from size : ℕ)
    → ones (drop from x) ≡ ones (take size (drop from x)) + ones (drop (from + size) x)
ones_part x from size =
    let y : List ℕ = drop from x in
    sym (ap ones (take-append-drop size y)) ∙ ones-append (take size y) (drop size y)
    ∙ ap (λ (z : List ℕ). ones (take size y) + ones z) (drop-drop size from x)

-- bits that are all 0
pub blank-ones : (x : List ℕ) → blank x ≡ true → ones x ≡ 0
unfolding ones blank
blank-ones [] e = refl
blank-ones (b ∷ x) e =
    omega (arith, eqb-true b 0 (both_left (eqb b 0) (blank x) e), blank-ones x (both_right (eqb b 0) (blank x) e))

pub blank-total : (i : ℕ) (x : List ℕ) → blank x ≡ true → total i x ≡ 0
unfolding total blank
blank-total i [] e = refl
blank-total i (b ∷ x) e =
    rw (
      eqb-true b 0 (both_left (eqb b 0) (blank x) e),
      mul-zero i,
      blank-total (suc i) x (both_right (eqb b 0) (blank x) e),
    ) refl

-- moved on by k, each one counts k more
pub total_far : (k i : ℕ) (x : List ℕ) → total (i + k) x ≡ total i x + k * ones x
total_far zero i x = rw (add-zero i) (omega arith)
total_far (suc k) i x = rw (add-suc i k) (total_up (i + k) x ∙ omega (arith, total_far k i x))

-- ---- byte by byte
unpack-drop : (s : List ℕ) (i : ℕ) → i < length s
    → drop (i * 8) (unpack s) ≡ digits 8 (get_or s i 0) ++ drop ((i + 1) * 8) (unpack s)
unfolding unpack
unpack-drop [] i h = absurd (omega arith)
unpack-drop (v ∷ s) zero h =
    let e : (0 + 1) * 8 ≡ length (digits 8 v) + 0 = omega (arith, length_digits 8 v) in
    rw (e, drop-append-add (digits 8 v) (unpack s) 0) refl
unpack-drop (v ∷ s) (suc i) h =
    let e : suc i * 8 ≡ length (digits 8 v) + i * 8 = omega (arith, length_digits 8 v) in
    let f : (suc i + 1) * 8 ≡ length (digits 8 v) + (i + 1) * 8 = omega (arith, length_digits 8 v) in
    rw (e, f, drop-append-add (digits 8 v) (unpack s) (i * 8), drop-append-add (digits 8 v) (unpack s) ((i + 1) * 8))
    (unpack-drop s i (omega arith))

-- the ones from byte i on, taken apart behind it
pub ones-byte : (s : List ℕ) (i : ℕ) → i < length s
    → ones (drop (i * 8) (unpack s)) ≡ ones (digits 8 (get_or s i 0)) + ones (drop ((i + 1) * 8) (unpack s))
ones-byte s i h = rw (unpack-drop s i h) (ones-append (digits 8 (get_or s i 0)) (drop ((i + 1) * 8) (unpack s)))

-- the total from byte i on, taken apart behind it
pub total-byte : (s : List ℕ) (i : ℕ) → i < length s
    → total (1 + i * 8) (drop (i * 8) (unpack s))
    ≡ i * 8 * ones (digits 8 (get_or s i 0)) + total 1 (digits 8 (get_or s i 0)) + total (1 + (i + 1) * 8)
    (drop ((i + 1) * 8) (unpack s))
total-byte s i h =
    let d : List ℕ = digits 8 (get_or s i 0) in
    let e : 1 + i * 8 + length d ≡ 1 + (i + 1) * 8 = omega (arith, length_digits 8 (get_or s i 0)) in
    let f : total (1 + i * 8 + length d) (drop ((i + 1) * 8) (unpack s))
    ≡ total (1 + (i + 1) * 8) (drop ((i + 1) * 8) (unpack s)) =
    ap (λ (n : ℕ). total n (drop ((i + 1) * 8) (unpack s))) e in
    rw (unpack-drop s i h)
    (total-append (1 + i * 8) d (drop ((i + 1) * 8) (unpack s)) ∙ omega (arith, total_far (i * 8) 1 d, f))

-- ---- a part of packed bits, unpacked
unpack-behind : (i : ℕ) (s : List ℕ) → unpack (drop i s) ≡ drop (i * 8) (unpack s)
unfolding unpack
unpack-behind zero s = refl
unpack-behind (suc i) [] = sym (drop-nil (suc i * 8))
unpack-behind (suc i) (v ∷ s) =
    let e : suc i * 8 ≡ length (digits 8 v) + i * 8 = omega (arith, length_digits 8 v) in
    rw (e, drop-append-add (digits 8 v) (unpack s) (i * 8)) (unpack-behind i s)

module _ (s : List ℕ) (byte size : ℕ) (h : byte * 8 + size ≤ length s * 8) where
  pub part_length : length (take size (drop (byte * 8) (unpack s))) ≡ size
  part_length =
      length-take-le size (drop (byte * 8) (unpack s)) (omega (arith, length-drop (byte * 8) (unpack s), length-unpack s))

  -- the front of an array to which the part was unpacked
  pub part_lent : (q o : List ℕ) → q ≡ take size (unpack (take (length s - byte) (drop byte s))) ++ drop size o
      → take size q ≡ take size (drop (byte * 8) (unpack s))
  part_lent q o e =
      let a : take (length s - byte) (drop byte s) ≡ drop byte s =
      take_all (length s - byte) (drop byte s) (omega (arith, length-drop byte s)) in
      rw (e, a, unpack-behind byte s) (take_at (take size (drop (byte * 8) (unpack s))) (drop size o) size part_length)

  -- the ones behind a place in the part are those in it and those behind it
  pub part_ones : (at : ℕ) → at ≤ size
      → ones (drop (byte * 8 + at) (unpack s))
      ≡ ones (drop at (take size (drop (byte * 8) (unpack s)))) + ones (drop (byte * 8 + size) (unpack s))
  part_ones at k =
      let u : List ℕ = unpack s in
      let y : List ℕ = drop (byte * 8) u in
      let d : drop (byte * 8 + at) u ≡ drop at (take size y) ++ drop (byte * 8 + size) u =
      sym (drop-drop at (byte * 8) u) ∙ sym (ap (drop at) (take-append-drop size y))
      ∙ drop-append-le at (take size y) (drop size y) (omega (arith, part_length))
      ∙ ap (λ (l : List ℕ). drop at (take size y) ++ l) (drop-drop size (byte * 8) u) in
      ap ones d ∙ ones-append (drop at (take size y)) (drop (byte * 8 + size) u)
