-- The next number from some other on that leaves a given rest. Assumes nothing.
use Prim.Native.Nat.{ℕ, ◌+◌, ◌-◌, ◌*◌, ◌/◌, ◌%◌, ◌<◌, ◌≤◌}
use mathlib.Core.Logic.{⊎_elim}
use native.Mathlib.Nat.{mul-le-mul_right, div-add-mod'}
use native.Mathlib.Omega.{arith}
use Rattle.bits.proofs.Laws.{lt_or_ge}

-- quotients rise with the numbers where the rest does not fall, and where it falls
same_turn : (m a b r s : ℕ) → s < m → a * m + r ≤ b * m + s → a * m ≤ b * m
same_turn m a b r s h le =
    ⊎_elim
    (λ (k : b < a). let p = mul-le-mul_right {m = b + 1} {n = a} m (omega arith) in omega arith)
    (λ (k : a ≤ b). mul-le-mul_right m k)
    (lt_or_ge b a)

next_turn : (m a b r s : ℕ) → s < r → a * m + r ≤ b * m + s → a * m + m ≤ b * m
next_turn m a b r s h le =
    ⊎_elim
    (λ (k : a < b). let p = mul-le-mul_right {m = a + 1} {n = b} m (omega arith) in omega arith)
    (λ (k : b ≤ a). let p = mul-le-mul_right m k in absurd (omega arith))
    (lt_or_ge a b)

-- a number with that rest is not below the next one
pub next-same : (m low n : ℕ) → n % m < m → low ≤ n → low % m ≤ n % m → low + (n % m - low % m) ≤ n
next-same m low n h le r =
    let p = div-add-mod' low m in
    let q = div-add-mod' n m in
    omega (arith, same_turn m (low / m) (n / m) (low % m) (n % m) h (omega arith))

pub next-later : (m low n : ℕ) → low % m < m → low ≤ n → n % m < low % m → low + (n % m + m - low % m) ≤ n
next-later m low n h le r =
    let p = div-add-mod' low m in
    let q = div-add-mod' n m in
    omega (arith, next_turn m (low / m) (n / m) (low % m) (n % m) r (omega arith))
