-- The bits of a word: how they stand after a shift, a remainder and a union. Assumes nothing.
use Prim.Native.Nat.{ℕ, zero, suc, ◌+◌, ◌-◌, ◌*◌, ◌/◌, ◌%◌, ◌^◌, ◌<◌, ◌≤◌, min, max}
use mathlib.Core.Path.{◌≡◌, refl, sym, ap, ap₂, ◌∙◌}
use mathlib.Core.Logic.{⊎_elim}
use native.Mathlib.Nat.{zero-div, mod-lt, mod-eq_of_lt, add-mod, add_comm, add-mul, one-mul}
use native.Mathlib.Nat.{add-mul-mod_self_right, div-add-mod'}
use native.Mathlib.Omega.{arith}
use Rattle.bits.proofs.Laws.{lt_or_ge}
use lib.Bits.{bit_and, bit_or, and_step, and_shr, or_step, or_shr, or_comm}
use lib.Pow.{shl-shr, shl_exact, shr-shr, field, mod-mod-pow}
use Rattle.residues.specs.Residues.{Has}

-- a remainder keeps the low bits
pub bit_low : (x j k : ℕ) → k < j → x % 2 ^ j / 2 ^ k % 2 ≡ x / 2 ^ k % 2
bit_low x j k h =
    let d : ℕ = j - (k + 1) in
    let e : j ≡ d + 1 + k = omega arith in
    rw e (ap (λ (n : ℕ). n % 2) (field x (d + 1) k) ∙ mod-mod-pow (x / 2 ^ k) d 1)

-- a shift to the left moves the bits up, within the word
pub bit_up : (x u k : ℕ) → u + k < 64 → x * 2 ^ u % 2 ^ 64 / 2 ^ (u + k) % 2 ≡ x / 2 ^ k % 2
bit_up x u k h =
    bit_low (x * 2 ^ u) 64 (u + k) h
    ∙ ap (λ (n : ℕ). n % 2) (sym (shr-shr (x * 2 ^ u) u k) ∙ ap (λ (n : ℕ). n / 2 ^ k) (shl-shr x u))

-- a shift to the right moves them down
pub bit_down : (x u k : ℕ) → x / 2 ^ u / 2 ^ k % 2 ≡ x / 2 ^ (u + k) % 2
bit_down x u k = ap (λ (n : ℕ). n % 2) (shr-shr x u k)

-- a bit of one of two words is a bit of their union
max-one : (x : ℕ) → x < 2 → max 1 x ≡ 1
max-one zero h = refl
max-one (suc zero) h = refl
max-one (suc (suc x)) h = absurd (omega arith)

pub or_one : (a b k : ℕ) → a / 2 ^ k % 2 ≡ 1 → bit_or a b / 2 ^ k % 2 ≡ 1
or_one a b k h =
    let x : ℕ = a / 2 ^ k in
    let y : ℕ = b / 2 ^ k in
    let bit : max (x % 2) (y % 2) ≡ 1 = ap (λ (n : ℕ). max n (y % 2)) h ∙ max-one (y % 2) (mod-lt y (omega arith)) in
    ap (λ (n : ℕ). n % 2) (or_shr a b k ∙ or_step x y)
    ∙ omega (arith, bit)

pub or_other : (a b k : ℕ) → b / 2 ^ k % 2 ≡ 1 → bit_or a b / 2 ^ k % 2 ≡ 1
or_other a b k h = ap (λ (n : ℕ). n / 2 ^ k % 2) (or_comm a b) ∙ or_one b a k h

-- and one of both is one of what they have in common
pub and_one : (a b k : ℕ) → a / 2 ^ k % 2 ≡ 1 → b / 2 ^ k % 2 ≡ 1 → bit_and a b ≡ 0 → ⊥
and_one a b k h g none =
    let x : ℕ = a / 2 ^ k in
    let y : ℕ = b / 2 ^ k in
    let bit : min (x % 2) (y % 2) ≡ 1 = ap₂ min h g in
    let zero-there : bit_and x y ≡ 0 = sym (and_shr a b k) ∙ ap (λ (n : ℕ). n / 2 ^ k) none ∙ zero-div (2 ^ k) in
    omega (arith, and_step x y, bit, zero-there)

-- ---- residues
-- a set turned by so many bits within m holds the residues with so much more
pub turned_has : (m set n by : ℕ) → 1 ≤ m → m ≤ 63 → Has m set n
    → Has m (bit_or (set * 2 ^ (by % m) % 2 ^ 64) (set / 2 ^ (m - by % m)) % 2 ^ m) (n + by)
turned_has m set n by low high has =
    bit_low _ m ((n + by) % m) (mod-lt (n + by) low)
    ∙ ⊎_elim inside around (lt_or_ge (n % m + by % m) m)
  where
    up : by % m < m
    up = mod-lt by low

    under : n % m < m
    under = mod-lt n low

    both : (n + by) % m ≡ (n % m + by % m) % m
    both = add-mod n by m

    inside : n % m + by % m < m
        → bit_or (set * 2 ^ (by % m) % 2 ^ 64) (set / 2 ^ (m - by % m)) / 2 ^ ((n + by) % m) % 2 ≡ 1
    inside h =
        let at : (n + by) % m ≡ by % m + n % m = both ∙ mod-eq_of_lt h ∙ add_comm (n % m) (by % m) in
        rw at
        (or_one _ (set / 2 ^ (m - by % m)) (by % m + n % m)
        (bit_up set (by % m) (n % m) (omega (arith, h)) ∙ has))

    around : m ≤ n % m + by % m
        → bit_or (set * 2 ^ (by % m) % 2 ^ 64) (set / 2 ^ (m - by % m)) / 2 ^ ((n + by) % m) % 2 ≡ 1
    around h =
        let k : ℕ = n % m + by % m - m in
        let again : n % m + by % m ≡ k + 1 * m = omega arith in
        let at : (n + by) % m ≡ k =
        both ∙ ap (λ (v : ℕ). v % m) again ∙ add-mul-mod_self_right k 1 m ∙ mod-eq_of_lt (omega (arith, under, up)) in
        let same : m - by % m + k ≡ n % m = omega (arith, up) in
        rw at
        (or_other (set * 2 ^ (by % m) % 2 ^ 64) (set / 2 ^ (m - by % m)) k
        (bit_down set (m - by % m) k ∙ ap (λ (v : ℕ). set / 2 ^ v % 2) same ∙ has))

-- what is taken off and put on again leaves the residue
pub back_again : (m n by : ℕ) → 1 ≤ m → (n + by + (m - by % m)) % m ≡ n % m
back_again m n by low =
    let whole : n + by + (m - by % m) ≡ n + (by / m + 1) * m =
    omega (arith, div-add-mod' by m, mod-lt by low, add-mul (by / m) 1 m, one-mul m) in
    ap (λ (v : ℕ). v % m) whole ∙ add-mul-mod_self_right n (by / m + 1) m

-- the word of one residue
pub one_has : (r : ℕ) → r < 64 → 1 * 2 ^ r % 2 ^ 64 / 2 ^ r % 2 ≡ 1
one_has r h = bit_low (1 * 2 ^ r) 64 r h ∙ ap (λ (v : ℕ). v % 2) (shl-shr 1 r)

-- a word with one bit
pub one_bit : (m : ℕ) → m ≤ 63 → 1 * 2 ^ m % 2 ^ 64 ≡ 2 ^ m
one_bit m h = shl_exact 1 m 64 (omega arith) (omega arith) ∙ one-mul (2 ^ m)
