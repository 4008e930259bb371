-- Two strings that give y by one deletion and whose deleted bits add the same to the total are equal: the deleted bit
-- may have stood elsewhere, but only in the same run. Assumes nothing.
use Prim.Native.Nat.{ℕ, zero, suc, ◌+◌, ◌*◌, ◌<◌, ◌≤◌}
use mathlib.Core.Path.{◌≡◌, refl, sym, ap}
use mathlib.Core.List.{List, ◌∷◌}
use native.Mathlib.Nat.{mul-zero, mul-one}
use native.Mathlib.Omega.{arith}
use lib.ListN.{length}
use Rattle.bits.specs.Bits.{AllBits}
use Rattle.rows.proofs.Deletion.{One, here, there}
use Rattle.vt.specs.Ones.{ones}
use Rattle.vt.specs.Sum.{total}
use Rattle.vt.proofs.Totals.{total_up, ones-length}

-- what the deleted bit adds to the total, where the first bit stands at position i
pub gain : (i : ℕ) {x y : List ℕ} → One x y → ℕ
gain i (here {b} {x}) = i * b + ones x
gain i (there d) = gain (suc i) d

-- the deleted bit
bit : {x y : List ℕ} → One x y → ℕ
bit (here {b}) = b
bit (there d) = bit d

pub total_gain : (i : ℕ) {x y : List ℕ} (d : One x y) → total i x ≡ total i y + gain i d
unfolding total gain
total_gain i (here {b} {x}) = let h = total_up i x in omega arith
total_gain i (there {b} d) = let h = total_gain (suc i) d in omega arith

-- a deleted 0 adds at most the number of ones
zero_low : (i : ℕ) {x y : List ℕ} (d : One x y) → bit d ≡ 0 → gain i d ≤ ones y
unfolding gain bit ones
zero_low i (here {b} {x}) e = let h : i * b ≡ 0 = rw (e, mul-zero) refl in omega arith
zero_low i (there d) e = let h = zero_low (suc i) d e in omega arith

-- a deleted 1 adds more than the number of ones
one-high : (i : ℕ) {x y : List ℕ} (d : One x y) → AllBits y → bit d ≡ 1 → i + ones y ≤ gain i d
unfolding gain bit ones
one-high i (here {b} {x}) a e = let h : i * b ≡ i = rw (e, mul-one) refl in omega arith
one-high i (there d) a e = let h = one-high (suc i) d a.1 e in omega (arith, a.0)

one-low : (i : ℕ) {x y : List ℕ} (d : One x y) → AllBits y → bit d ≡ 1 → gain i d ≤ i + length y
unfolding gain bit
one-low i (here {b} {x}) a e = let h : i * b ≡ i = rw (e, mul-one) refl in let k = ones-length x a in omega arith
one-low i (there d) a e = let h = one-low (suc i) d a.1 e in omega arith

bit_small : {x y : List ℕ} (d : One x y) → AllBits x → bit d < 2
unfolding bit
bit_small here a = a.0
bit_small (there d) a = bit_small d a.1

-- the two bits
two : {P : Type 0} (k : ℕ) → k < 2 → (k ≡ 0 → P) → (k ≡ 1 → P) → P
two zero h f g = f refl
two (suc zero) h f g = g refl
two (suc (suc k)) h f g = absurd (omega arith)

-- a deleted bit adds at most the length of its string
pub gain_top : {x y : List ℕ} (d : One x y) → AllBits x → AllBits y → gain 1 d < length y + 2
gain_top {y} d ax ay =
    two (bit d) (bit_small d ax) (λ r. let l = zero_low 1 d r in let k = ones-length y ay in omega arith)
    (λ r. let l = one-low 1 d ay r in omega arith)

-- two bits at one place that add the same
same_bit : (i b c n : ℕ) → 1 ≤ i → b < 2 → c < 2 → i * b + n ≡ i * c + n → b ≡ c
same_bit i zero zero n h p q e = refl
same_bit i zero (suc zero) n h p q e = absurd (omega (arith, mul-zero i, mul-one i))
same_bit i (suc zero) zero n h p q e = absurd (omega (arith, mul-zero i, mul-one i))
same_bit i (suc zero) (suc zero) n h p q e = refl
same_bit i zero (suc (suc c)) n h p q e = absurd (omega arith)
same_bit i (suc zero) (suc (suc c)) n h p q e = absurd (omega arith)
same_bit i (suc (suc b)) c n h p q e = absurd (omega arith)

-- a bit deleted here and one deleted further on add the same only where it is the same bit as the next one
cross : (i b c : ℕ) {z y : List ℕ} (e : One z y) → 1 ≤ i → b < 2 → c < 2 → AllBits y → bit e < 2
    → i * b + (c + ones y) ≡ gain (suc i) e → (b ≡ c) × (suc i * c + ones y ≡ gain (suc i) e)
cross i zero zero e h p q a k w = (refl, omega (arith, mul-zero i, mul-zero (suc i)))
cross i (suc zero) (suc zero) e h p q a k w = (refl, omega (arith, mul-one i, mul-one (suc i)))
cross i zero (suc zero) e h p q a k w =
    absurd (two (bit e) k (λ r. let l = zero_low (suc i) e r in omega (arith, mul-zero i))
    (λ r. let l = one-high (suc i) e a r in omega (arith, mul-zero i)))
cross i (suc zero) zero e h p q a k w =
    absurd (two (bit e) k (λ r. let l = zero_low (suc i) e r in omega (arith, mul-one i))
    (λ r. let l = one-high (suc i) e a r in omega (arith, mul-one i)))
cross i zero (suc (suc c)) e h p q a k w = absurd (omega arith)
cross i (suc zero) (suc (suc c)) e h p q a k w = absurd (omega arith)
cross i (suc (suc b)) c e h p q a k w = absurd (omega arith)

same_here : (i b : ℕ) {z y : List ℕ} (e : One z y) → 1 ≤ i → b < 2 → AllBits z → AllBits y → i * b + ones y ≡ gain i e
    → b ∷ y ≡ z
unfolding gain ones
same_here i b (here {b = c} {x}) h p az ay w = ap (λ (v : ℕ). v ∷ x) (same_bit i b c (ones x) h p az.0 w)
same_here i b (there {b = c} {x = z} {y} e) h p az ay w =
    let k = cross i b c e h p az.0 ay.1 (bit_small e az.1) w in
    let r = same_here (suc i) c e (omega arith) az.0 az.1 ay.1 k.1 in
    let s : b ≡ c = k.0 in
    cc

-- strings whose deleted bits add the same are equal
pub same_gain : (i : ℕ) {x z y : List ℕ} (d : One x y) (e : One z y) → 1 ≤ i → AllBits x → AllBits z → AllBits y
    → gain i d ≡ gain i e → x ≡ z
unfolding gain
same_gain i (here {b}) e h ax az ay w = same_here i b e h ax.0 az ay w
same_gain i (there {b = c} d) (here {b}) h ax az ay w = sym (same_here i b (there {b = c} d) h az.0 ax ay (sym w))
same_gain i (there {b = c} d) (there e) h ax az ay w =
    ap (λ (l : List ℕ). c ∷ l) (same_gain (suc i) d e (omega arith) ax.1 az.1 ay.1 w)
