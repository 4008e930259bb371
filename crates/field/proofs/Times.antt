-- The laws of the product: linear on both sides, and the powers of 2 add up. Assumes nothing.
use Prim.Native.Nat.{ℕ, zero, suc, ◌+◌, ◌-◌, ◌*◌, ◌/◌, ◌%◌, ◌^◌, ◌<◌, ◌≤◌}
use mathlib.Core.Path.{◌≡◌, refl, sym, ap, ap₂, ◌∙◌}
use native.Mathlib.Nat.{pow-suc, zero-add, div-add-mod'}
use native.Mathlib.Omega.{arith}
use lib.Arith.{bin_ind, lt-one}
use lib.Bits.{bit_xor, xor_lt, xor_zero_r, xor_shifted}
use lib.Pow.{pow_pos}
use Rattle.field.specs.Field.{polynomial, Element, double, power, times_digits, times}
use Rattle.field.proofs.Double.{each, pick, pick_xor, pick_of_xor, carry, carry_digit, double-small, double_carries, double_zero, double-xor, double_element, power_element}
use Rattle.field.proofs.Xor.{digit, last_digit, xor_half, xor_odd, xor_cross}

-- ---- the digits of the first factor

digits-xor : (nc k a b y : ℕ) → times_digits nc k (bit_xor a b) y ≡ bit_xor (times_digits nc k a y) (times_digits nc k b y)
unfolding times_digits
digits-xor nc zero a b y = refl
digits-xor nc (suc k) a b y =
    ap₂ bit_xor
    (ap (λ (d : ℕ). pick d y) (xor_odd a b) ∙ pick_xor (a % 2) (b % 2) y (last_digit a) (last_digit b))
    (ap (λ (n : ℕ). times_digits nc k n (double nc y)) (xor_half a b) ∙ digits-xor nc k (a / 2) (b / 2) (double nc y))
    ∙ xor_cross (pick (a % 2) y) (pick (b % 2) y) (times_digits nc k (a / 2) (double nc y))
    (times_digits nc k (b / 2) (double nc y))

digits_zero : (nc k y : ℕ) → times_digits nc k 0 y ≡ 0
unfolding times_digits
digits_zero nc zero y = refl
digits_zero nc (suc k) y = digits_zero nc k (double nc y)

digits_of_zero : (nc k a : ℕ) → times_digits nc k a 0 ≡ 0
unfolding times_digits
digits_of_zero nc zero a = refl
digits_of_zero nc (suc k) a =
    ap₂ bit_xor (digit (λ (d : ℕ). pick d 0 ≡ 0) refl refl (a % 2) (last_digit a))
    (ap (times_digits nc k (a / 2)) (double_zero nc) ∙ digits_of_zero nc k (a / 2))

-- one more digit of a number that has no more adds nothing
digits_more : (nc k a y : ℕ) → a < 2 ^ k → times_digits nc (suc k) a y ≡ times_digits nc k a y
unfolding times_digits
digits_more nc zero a y h = ap (λ (n : ℕ). times_digits nc 1 n y) (lt-one h)
digits_more nc (suc k) a y h =
    ap (bit_xor (pick (a % 2) y)) (digits_more nc k (a / 2) (double nc y) (omega (arith, pow-suc 2 k)))

digits_twice : (nc k a y : ℕ) → times_digits nc (suc k) (2 * a) y ≡ times_digits nc k a (double nc y)
unfolding times_digits
digits_twice nc k a y =
    let low : 2 * a % 2 ≡ 0 = omega arith in
    let high : 2 * a / 2 ≡ a = omega arith in
    ap₂ (λ (d n : ℕ). bit_xor (pick d y) (times_digits nc k n (double nc y))) low high

digits-one : (nc k y : ℕ) → times_digits nc (suc k) 1 y ≡ y
unfolding times_digits
digits-one nc k y = ap (bit_xor y) (digits_zero nc k (double nc y)) ∙ xor_zero_r y

-- an element is the double of its digits but the last, and the last digit
halves : (nc x : ℕ) → Element nc x → x ≡ bit_xor (double nc (x / 2)) (x % 2)
halves nc x h =
    let even : 2 * (x / 2) ≡ x / 2 * 2 = omega arith in
    let doubled = double-small nc (x / 2) (omega arith) ∙ even in
    sym (div-add-mod' x 2) ∙ sym (xor_shifted (x / 2) 1 (x % 2) (last_digit x))
    ∙ ap (λ (n : ℕ). bit_xor n (x % 2)) (sym doubled)

-- the product is linear in each factor
pub times-xor : (nc a b y : ℕ) → times nc (bit_xor a b) y ≡ bit_xor (times nc a y) (times nc b y)
unfolding times
times-xor nc a b y = digits-xor nc nc a b y

pub times_zero : (nc y : ℕ) → times nc 0 y ≡ 0
unfolding times
times_zero nc y = digits_zero nc nc y

pub times_of_zero : (nc a : ℕ) → times nc a 0 ≡ 0
unfolding times
times_of_zero nc a = digits_of_zero nc nc a

module _ (nc : ℕ) (lo : 3 ≤ nc) (hi : nc ≤ 8) where
  pick-element : (d y : ℕ) → d < 2 → Element nc y → Element nc (pick d y)
  pick-element d y l h = digit (λ (n : ℕ). Element nc (pick n y)) (pow_pos nc) h d l

  digits-element : (k a y : ℕ) → Element nc y → Element nc (times_digits nc k a y)
  unfolding times_digits
  digits-element zero a y h = pow_pos nc
  digits-element (suc k) a y h =
      xor_lt nc (pick (a % 2) y) (times_digits nc k (a / 2) (double nc y)) (pick-element (a % 2) y (last_digit a) h)
      (digits-element k (a / 2) (double nc y) (double_element nc lo hi y h))

  digits-of-xor : (k a x y : ℕ) → Element nc x → Element nc y
      → times_digits nc k a (bit_xor x y) ≡ bit_xor (times_digits nc k a x) (times_digits nc k a y)
  unfolding times_digits
  digits-of-xor zero a x y hx hy = refl
  digits-of-xor (suc k) a x y hx hy =
      let dx = double nc x in
      let dy = double nc y in
      ap₂ bit_xor (pick_of_xor (a % 2) x y (last_digit a))
      (ap (times_digits nc k (a / 2)) (double-xor nc x y hx hy)
      ∙ digits-of-xor k (a / 2) dx dy (double_element nc lo hi x hx) (double_element nc lo hi y hy))
      ∙ xor_cross (pick (a % 2) x) (pick (a % 2) y) (times_digits nc k (a / 2) dx) (times_digits nc k (a / 2) dy)

  digits-double : (k a y : ℕ) → Element nc y → times_digits nc k a (double nc y) ≡ double nc (times_digits nc k a y)
  unfolding times_digits
  digits-double zero a y h = sym (double_zero nc)
  digits-double (suc k) a y h =
      let dy = double nc y in
      let hd = double_element nc lo hi y h in
      let picked =
      digit (λ (d : ℕ). pick d dy ≡ double nc (pick d y)) (sym (double_zero nc)) refl (a % 2) (last_digit a) in
      ap₂ bit_xor picked (digits-double k (a / 2) dy hd)
      ∙ sym (double-xor nc (pick (a % 2) y) (times_digits nc k (a / 2) dy) (pick-element (a % 2) y (last_digit a) h)
      (digits-element k (a / 2) dy hd))

  -- the polynomial, with 2 put in for its unknown, is 0
  polynomial-root : times_digits nc (suc nc) (polynomial nc) 1 ≡ 0
  unfolding times_digits
  polynomial-root = each (λ (n : ℕ). times_digits n (suc n) (polynomial n) 1 ≡ 0) refl refl refl refl refl refl nc lo hi

  -- so the polynomial times any element is 0
  polynomial-times : (y : ℕ) → Element nc y → times_digits nc (suc nc) (polynomial nc) y ≡ 0
  polynomial-times = bin_ind (λ (y : ℕ). Element nc y → by y ≡ 0) (λ h. digits_of_zero nc (suc nc) (polynomial nc)) step
    where
      by : ℕ → ℕ
      by y = times_digits nc (suc nc) (polynomial nc) y

      last : (d : ℕ) → d < 2 → by d ≡ 0
      last = digit (λ (d : ℕ). by d ≡ 0) (digits_of_zero nc (suc nc) (polynomial nc)) polynomial-root

      step : (y : ℕ) → (Element nc (y / 2) → by (y / 2) ≡ 0) → Element nc y → by y ≡ 0
      step y ih h =
          let small : Element nc (y / 2) = omega arith in
          let bit : Element nc (y % 2) = omega arith in
          let twice : by (double nc (y / 2)) ≡ 0 =
          digits-double (suc nc) (polynomial nc) (y / 2) small ∙ ap (double nc) (ih small) ∙ double_zero nc in
          ap by (halves nc y h)
          ∙ digits-of-xor (suc nc) (polynomial nc) (double nc (y / 2)) (y % 2) (double_element nc lo hi (y / 2) small) bit
          ∙ ap₂ bit_xor twice (last (y % 2) (last_digit y))

  -- ---- the product

  pub times_element : (a b : ℕ) → Element nc b → Element nc (times nc a b)
  unfolding times
  times_element a b h = digits-element nc a b h

  pub times_of_xor : (a x y : ℕ) → Element nc x → Element nc y
      → times nc a (bit_xor x y) ≡ bit_xor (times nc a x) (times nc a y)
  unfolding times
  times_of_xor a x y hx hy = digits-of-xor nc a x y hx hy

  pub times-one : (y : ℕ) → times nc 1 y ≡ y
  unfolding times
  times-one y =
      let e : nc ≡ suc (nc - 1) = omega arith in
      ap (λ (k : ℕ). times_digits nc k 1 y) e ∙ digits-one nc (nc - 1) y

  pub times_of_double : (a y : ℕ) → Element nc y → times nc a (double nc y) ≡ double nc (times nc a y)
  unfolding times
  times_of_double a y h = digits-double nc a y h

  -- doubling goes over from one factor to the other
  pub times-double : (a y : ℕ) → Element nc a → Element nc y → times nc (double nc a) y ≡ times nc a (double nc y)
  unfolding times
  times-double a y ha hy =
      let p = pick (carry nc a) (polynomial nc) in
      let off =
      digit (λ (d : ℕ). times_digits nc (suc nc) (pick d (polynomial nc)) y ≡ 0) (digits_zero nc (suc nc) y)
      (polynomial-times y hy) in
      sym (digits_more nc nc (double nc a) y (double_element nc lo hi a ha))
      ∙ ap (λ (n : ℕ). times_digits nc (suc nc) n y) (double_carries nc a ha)
      ∙ digits-xor nc (suc nc) (2 * a) p y
      ∙ ap₂ bit_xor (digits_twice nc nc a y) (off (carry nc a) (carry_digit nc a ha))
      ∙ xor_zero_r (times_digits nc nc a (double nc y))

  pub double-times : (a y : ℕ) → Element nc a → Element nc y → times nc (double nc a) y ≡ double nc (times nc a y)
  double-times a y ha hy = times-double a y ha hy ∙ times_of_double a y hy

  -- exponents add up
  pub times_power : (a b : ℕ) → times nc (power nc a) (power nc b) ≡ power nc (a + b)
  unfolding power
  times_power zero b = times-one (power nc b) ∙ ap (power nc) (sym (zero-add b))
  times_power (suc a) b =
      let e : a + suc b ≡ suc a + b = omega arith in
      times-double (power nc a) (power nc b) (power_element nc lo hi a) (power_element nc lo hi b)
      ∙ times_power a (suc b) ∙ ap (power nc) e

  -- ---- the period of the powers

  pub power-order : power nc (2 ^ nc - 1) ≡ 1
  unfolding power
  power-order = each (λ (n : ℕ). power n (2 ^ n - 1) ≡ 1) refl refl refl refl refl refl nc lo hi

  pub power_period : (e : ℕ) → power nc ((2 ^ nc - 1) + e) ≡ power nc e
  power_period e =
      sym (times_power (2 ^ nc - 1) e) ∙ ap (λ (x : ℕ). times nc x (power nc e)) power-order ∙ times-one (power nc e)
