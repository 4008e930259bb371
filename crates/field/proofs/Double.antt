-- The laws of doubling in the fields. Assumes nothing.
use Prim.Native.Nat.{ℕ, zero, suc, ◌*◌, ◌/◌, ◌%◌, ◌^◌, ◌<◌, ◌≤◌}
use mathlib.Core.Path.{◌≡◌, refl, sym, ap, ap₂, ◌∙◌}
use mathlib.Core.Bool.{Bool, cond}
use native.Mathlib.Decide.{dec_lt}
use native.Mathlib.Nat.{div-eq_of_lt, div-eq_of_lt-le, div-lt_iff_lt-mul}
use native.Mathlib.Omega.{arith}
use borrow.Author.Tests.{lt-ltb, le-ltb}
use lib.Bits.{bit_xor, xor_lt, xor_shr, xor_zero_r, xor_self}
use lib.Dec.{eqb}
use lib.Pow.{pow_pos, pow_mono}
use Rattle.field.specs.Field.{polynomial, Element, double, power}
use Rattle.field.proofs.Xor.{digit, xor_twice, xor_cross, xor_same}

-- a fact of each of the six fields
pub each : (P : ℕ → Type 0) → P 3 → P 4 → P 5 → P 6 → P 7 → P 8 → (nc : ℕ) → 3 ≤ nc → nc ≤ 8 → P nc
each P a b c d e f zero lo hi = absurd (omega arith)
each P a b c d e f (suc zero) lo hi = absurd (omega arith)
each P a b c d e f (suc (suc zero)) lo hi = absurd (omega arith)
each P a b c d e f (suc (suc (suc zero))) lo hi = a
each P a b c d e f (suc (suc (suc (suc zero)))) lo hi = b
each P a b c d e f (suc (suc (suc (suc (suc zero))))) lo hi = c
each P a b c d e f (suc (suc (suc (suc (suc (suc zero)))))) lo hi = d
each P a b c d e f (suc (suc (suc (suc (suc (suc (suc zero))))))) lo hi = e
each P a b c d e f (suc (suc (suc (suc (suc (suc (suc (suc zero)))))))) lo hi = f
each P a b c d e f (suc (suc (suc (suc (suc (suc (suc (suc (suc k))))))))) lo hi = absurd (omega arith)

-- a field has 8 to 256 elements
pub size_low : (nc : ℕ) → 3 ≤ nc → 8 ≤ 2 ^ nc
size_low nc lo = pow_mono {i = 3} {j = nc} lo

pub size-high : (nc : ℕ) → nc ≤ 8 → 2 ^ nc ≤ 256
size-high nc hi = pow_mono {i = nc} {j = 8} hi

-- b for a digit 1, 0 for a digit 0
abbrev pub pick : ℕ → ℕ → ℕ
pick d b = cond (eqb d 1) b 0

pub pick_xor : (d e b : ℕ) → d < 2 → e < 2 → pick (bit_xor d e) b ≡ bit_xor (pick d b) (pick e b)
pick_xor d e b hd he =
    digit (λ (n : ℕ). pick (bit_xor n e) b ≡ bit_xor (pick n b) (pick e b)) refl
    (digit (λ (n : ℕ). pick (bit_xor 1 n) b ≡ bit_xor b (pick n b)) (sym (xor_zero_r b)) (sym (xor_self b)) e he)
    d hd

pub pick_of_xor : (d a b : ℕ) → d < 2 → pick d (bit_xor a b) ≡ bit_xor (pick d a) (pick d b)
pick_of_xor d a b = digit (λ (n : ℕ). pick n (bit_xor a b) ≡ bit_xor (pick n a) (pick n b)) refl refl d

-- the digit that doubling carries out of the field
abbrev pub carry : ℕ → ℕ → ℕ
carry nc x = 2 * x / 2 ^ nc

pub carry_digit : (nc x : ℕ) → Element nc x → carry nc x < 2
carry_digit nc x h = (div-lt_iff_lt-mul (pow_pos nc)).1 (omega arith)

carry_none : (nc x : ℕ) → 2 * x < 2 ^ nc → carry nc x ≡ 0
carry_none nc x h = div-eq_of_lt h

carry_one : (nc x : ℕ) → Element nc x → 2 ^ nc ≤ 2 * x → carry nc x ≡ 1
carry_one nc x h l = div-eq_of_lt-le {k = 1} (2 ^ nc) (omega arith) (omega arith)

-- doubling where nothing is carried
pub double-small : (nc x : ℕ) → 2 * x < 2 ^ nc → double nc x ≡ 2 * x
unfolding double
double-small nc x l = ap (λ (t : Bool). cond t (2 * x) (bit_xor (2 * x) (polynomial nc))) (lt-ltb (2 * x) (2 ^ nc) l)

-- and where a digit is
double_large : (nc x : ℕ) → 2 ^ nc ≤ 2 * x → double nc x ≡ bit_xor (2 * x) (polynomial nc)
unfolding double
double_large nc x l = ap (λ (t : Bool). cond t (2 * x) (bit_xor (2 * x) (polynomial nc))) (le-ltb (2 * x) (2 ^ nc) l)

-- doubling takes the polynomial off where it carries
pub double_carries : (nc x : ℕ) → Element nc x → double nc x ≡ bit_xor (2 * x) (pick (carry nc x) (polynomial nc))
double_carries nc x h = go (dec_lt (2 * x) (2 ^ nc))
  where
    taken : {d : ℕ} → carry nc x ≡ d
        → bit_xor (2 * x) (pick d (polynomial nc)) ≡ bit_xor (2 * x) (pick (carry nc x) (polynomial nc))
    taken e = ap (λ (d : ℕ). bit_xor (2 * x) (pick d (polynomial nc))) (sym e)

    go : Dec (2 * x < 2 ^ nc) → double nc x ≡ bit_xor (2 * x) (pick (carry nc x) (polynomial nc))
    go (yes l) = double-small nc x l ∙ sym (xor_zero_r (2 * x)) ∙ taken (carry_none nc x l)
    go (no n) =
        let l : 2 ^ nc ≤ 2 * x = omega arith in
        double_large nc x l ∙ taken (carry_one nc x h l)

pub double_zero : (nc : ℕ) → double nc 0 ≡ 0
double_zero nc = double-small nc 0 (pow_pos nc)

-- doubling is linear
pub double-xor : (nc x y : ℕ) → Element nc x → Element nc y → double nc (bit_xor x y) ≡ bit_xor (double nc x) (double nc y)
double-xor nc x y hx hy =
    let p = polynomial nc in
    double_carries nc (bit_xor x y) (xor_lt nc x y hx hy)
    ∙ ap₂ bit_xor (sym (xor_twice x y))
    (ap (λ (d : ℕ). pick d p) (ap (λ (n : ℕ). n / 2 ^ nc) (sym (xor_twice x y)) ∙ xor_shr (2 * x) (2 * y) nc)
    ∙ pick_xor (carry nc x) (carry nc y) p (carry_digit nc x hx) (carry_digit nc y hy))
    ∙ xor_cross (2 * x) (2 * y) (pick (carry nc x) p) (pick (carry nc y) p)
    ∙ sym (ap₂ bit_xor (double_carries nc x hx) (double_carries nc y hy))

module _ (nc : ℕ) (lo : 3 ≤ nc) (hi : nc ≤ 8) where
  -- the polynomial has nc + 1 digits, and its last digit is 1
  polynomial-first : polynomial nc / 2 ^ nc ≡ 1
  polynomial-first = each (λ (n : ℕ). polynomial n / 2 ^ n ≡ 1) refl refl refl refl refl refl nc lo hi

  polynomial-last : polynomial nc % 2 ≡ 1
  polynomial-last = each (λ (n : ℕ). polynomial n % 2 ≡ 1) refl refl refl refl refl refl nc lo hi

  pub one_element : Element nc 1
  one_element = omega (arith, size_low nc lo)

  pub double_element : (x : ℕ) → Element nc x → Element nc (double nc x)
  double_element x h =
      let none =
      ap (λ (n : ℕ). n / 2 ^ nc) (double_carries nc x h) ∙ xor_shr (2 * x) (pick (carry nc x) (polynomial nc)) nc
      ∙ off (carry nc x) (carry_digit nc x h) in
      let low : double nc x < 1 * 2 ^ nc = (div-lt_iff_lt-mul (pow_pos nc)).0 (omega arith) in
      omega arith
    where
      off : (d : ℕ) → d < 2 → bit_xor d (pick d (polynomial nc) / 2 ^ nc) ≡ 0
      off =
          digit (λ (d : ℕ). bit_xor d (pick d (polynomial nc) / 2 ^ nc) ≡ 0) (div-eq_of_lt (pow_pos nc))
          (ap (bit_xor 1) polynomial-first)

  -- only 0 doubles to 0
  pub double_nonzero : (x : ℕ) → Element nc x → double nc x ≡ 0 → x ≡ 0
  double_nonzero x h z =
      only (carry nc x) (carry_digit nc x h)
      (xor_same (2 * x) (pick (carry nc x) (polynomial nc)) (sym (double_carries nc x h) ∙ z))
    where
      only : (d : ℕ) → d < 2 → 2 * x ≡ pick d (polynomial nc) → x ≡ 0
      only =
          digit (λ (d : ℕ). 2 * x ≡ pick d (polynomial nc) → x ≡ 0) (λ e. omega arith)
          (λ e. omega (arith, polynomial-last))

  pub power_element : (e : ℕ) → Element nc (power nc e)
  unfolding power
  power_element zero = one_element
  power_element (suc e) = double_element (power nc e) (power_element e)

  pub power_nonzero : (e : ℕ) → power nc e ≡ 0 → ⊥
  unfolding power
  power_nonzero zero z = omega arith
  power_nonzero (suc e) z = power_nonzero e (double_nonzero (power nc e) (power_element e) z)
