-- The laws of the checks: their results are elements, and they are linear. Assumes nothing.
use Prim.Native.Nat.{ℕ, zero, suc, ◌+◌, ◌*◌, ◌≤◌}
use mathlib.Core.Path.{◌≡◌, refl, sym, ap, ap₂, ◌∙◌}
use mathlib.Core.List.{List, [], ◌∷◌, ◌++◌}
use native.Mathlib.Nat.{add-zero}
use native.Mathlib.Omega.{arith}
use lib.Bits.{bit_xor, xor_lt}
use lib.ListN.{length}
use lib.Pow.{pow_pos}
use Rattle.field.specs.Field.{Element, Elements, power, times, check_from, check}
use Rattle.field.specs.Linear.{xor_each, Linear}
use Rattle.field.proofs.Times.{times_element, times_of_xor}
use Rattle.field.proofs.Xor.{xor_assoc, xor_cross}

pub length-xor_each : (xs ys : List ℕ) → length xs ≡ length ys → length (xor_each xs ys) ≡ length xs
unfolding xor_each
length-xor_each [] ys h = refl
length-xor_each (x ∷ xs) [] h = absurd (omega arith)
length-xor_each (x ∷ xs) (y ∷ ys) h = ap suc (length-xor_each xs ys (omega arith))

pub xor_each_elements : (nc : ℕ) (xs ys : List ℕ) → Elements nc xs → Elements nc ys → Elements nc (xor_each xs ys)
unfolding xor_each
xor_each_elements nc [] ys hx hy k = pow_pos nc
xor_each_elements nc (x ∷ xs) [] hx hy k = pow_pos nc
xor_each_elements nc (x ∷ xs) (y ∷ ys) hx hy zero = xor_lt nc x y (hx 0) (hy 0)
xor_each_elements nc (x ∷ xs) (y ∷ ys) hx hy (suc k) = xor_each_elements nc xs ys (λ n. hx (suc n)) (λ n. hy (suc n)) k

cut : (nc i c : ℕ) (xs ys : List ℕ)
    → check_from nc i c (xs ++ ys) ≡ bit_xor (check_from nc i c xs) (check_from nc i (c + length xs) ys)
unfolding check_from
cut nc i c [] ys = ap (λ (n : ℕ). check_from nc i n ys) (sym (add-zero c))
cut nc i c (x ∷ xs) ys =
    let t = times nc (power nc (i * c)) x in
    let e : suc c + length xs ≡ c + suc (length xs) = omega arith in
    ap (bit_xor t) (cut nc i (suc c) xs ys ∙ ap (λ (n : ℕ). bit_xor (check_from nc i (suc c) xs) (check_from nc i n ys)) e)
    ∙ sym (xor_assoc t (check_from nc i (suc c) xs) (check_from nc i (c + suc (length xs)) ys))

module _ (nc : ℕ) (lo : 3 ≤ nc) (hi : nc ≤ 8) where
  pub check_from_element : (i c : ℕ) (xs : List ℕ) → Elements nc xs → Element nc (check_from nc i c xs)
  unfolding check_from
  check_from_element i c [] h = pow_pos nc
  check_from_element i c (x ∷ xs) h =
      let t = times nc (power nc (i * c)) x in
      xor_lt nc t (check_from nc i (suc c) xs) (times_element nc lo hi (power nc (i * c)) x (h 0))
      (check_from_element i (suc c) xs (λ n. h (suc n)))

  pub check_element : (i : ℕ) (xs : List ℕ) → Elements nc xs → Element nc (check nc i xs)
  unfolding check
  check_element i xs h = check_from_element i 0 xs h

  joined : (i c : ℕ) (xs ys : List ℕ) → length xs ≡ length ys → Elements nc xs → Elements nc ys
      → check_from nc i c (xor_each xs ys) ≡ bit_xor (check_from nc i c xs) (check_from nc i c ys)
  unfolding check_from xor_each
  joined i c [] [] l hx hy = refl
  joined i c [] (y ∷ ys) l hx hy = absurd (omega arith)
  joined i c (x ∷ xs) [] l hx hy = absurd (omega arith)
  joined i c (x ∷ xs) (y ∷ ys) l hx hy =
      let p = power nc (i * c) in
      ap₂ bit_xor (times_of_xor nc lo hi p x y (hx 0) (hy 0))
      (joined i (suc c) xs ys (omega arith) (λ n. hx (suc n)) (λ n. hy (suc n)))
      ∙ xor_cross (times nc p x) (times nc p y) (check_from nc i (suc c) xs) (check_from nc i (suc c) ys)

  -- a check is linear
  pub check_linear : (i : ℕ) → Linear nc (check_from nc i)
  check_linear i = record { over-xor = joined i; over-cut = cut nc i }
