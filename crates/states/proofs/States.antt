-- The number of a loss state: it is below the number of states, its digits are the losses left, and one loss less
-- lowers it by the block's stride. Assumes nothing.
use Prim.Native.Nat.{ℕ, zero, suc, ◌+◌, ◌-◌, ◌*◌, ◌/◌, ◌%◌, ◌^◌, ◌<◌, ◌≤◌}
use mathlib.Core.Path.{◌≡◌, refl, sym, ap, ap₂, ◌∙◌}
use mathlib.Core.Bool.{cond}
use native.Mathlib.Decide.{ℕ_discrete}
use native.Mathlib.Nat.{zero-mul, zero-add, mul_comm, mul_assoc, mul-le-mul, mul-le-mul_left, mul-le-mul_right}
use native.Mathlib.Nat.{div-add-mod', div-div-eq-div-mul, div-one, mod-lt}
use native.Mathlib.Nat.{mod-eq_of_lt, div-eq_of_lt, add-mul-div_right, add-mul-mod_self_right, pow-suc, pow-le-pow_right}
use native.Mathlib.Numerals.{sub-one}
use native.Mathlib.Omega.{arith}
use borrow.Author.Tests.{eq-eqb, ne_eqb}
use lib.Dec.{eqb}
use lib.ListN.{get_or}
use mathlib.Core.List.{List}
use Rattle.states.specs.States.{stride, state, each}

-- one loss less in block s
abbrev pub lowered : (left : ℕ → ℕ) (s : ℕ) → ℕ → ℕ
lowered left s t = cond (eqb t s) (left t - 1) (left t)

pub lowered_there : (left : ℕ → ℕ) (s : ℕ) → lowered left s s ≡ left s - 1
lowered_there left s = rw (eq-eqb s s refl) refl

pub lowered_other : (left : ℕ → ℕ) (s t : ℕ) → (t ≡ s → ⊥) → lowered left s t ≡ left t
lowered_other left s t n = rw (ne_eqb t s n) refl

module _ (size : ℕ → ℕ) where
  pub stride_pos : (s : ℕ) → 0 < stride size s
  unfolding stride
  stride_pos zero = omega arith
  stride_pos (suc s) = mul-pos (stride size s) (size s) (stride_pos s)
    where
      mul-pos : (a b : ℕ) → 0 < a → 0 < a * (b + 1)
      mul-pos a b h = omega (arith, mul-le-mul_left {m = 1} {n = b + 1} a (omega arith))

  -- strides grow
  pub stride_up : (s n : ℕ) → s ≤ n → stride size s ≤ stride size n
  unfolding stride
  stride_up s zero h = let e : s ≡ 0 = omega arith in rw e (omega arith)
  stride_up s (suc n) h = go (ℕ_discrete s (suc n)) (λ l. stride_up s n l)
    where
      go : Dec (s ≡ suc n) → (s ≤ n → stride size s ≤ stride size n) → stride size s ≤ stride size n * (size n + 1)
      go (yes e) r = rw e (omega arith)
      go (no e) r = omega (arith, r (omega arith), mul-le-mul_left {m = 1} {n = size n + 1} (stride size n) (omega arith))

  -- of blocks with at most 255 losses each they stay small
  pub stride-high : (n : ℕ) → ((t : ℕ) → t < n → size t ≤ 255) → stride size n ≤ 256 ^ n
  unfolding stride
  stride-high zero h = omega arith
  stride-high (suc n) h =
      rw (pow-suc 256 n)
      (mul-le-mul {n₁ = stride size n} {m₁ = size n + 1} {n₂ = 256 ^ n} {m₂ = 256}
      (stride-high n (λ t k. h t (omega arith))) (omega (arith, h n (omega arith))))

  -- a later stride is a multiple of an earlier one
  multiple : (s k : ℕ) → (m : ℕ) × (stride size (suc s + k) ≡ m * stride size (suc s))
  multiple s zero =
      let e : suc s + 0 ≡ suc s = omega arith in
      let o : stride size (suc s) ≡ 1 * stride size (suc s) = omega arith in
      (1, ap (stride size) e ∙ o)
  multiple s (suc k) =
      let r = multiple s k in
      let e : suc s + suc k ≡ suc (suc s + k) = omega arith in (
        (size (suc s + k) + 1) * r.0,
        ap (stride size) e ∙ next (suc s + k) ∙ ap (λ (v : ℕ). v * (size (suc s + k) + 1)) r.1
            ∙ mul_comm (r.0 * stride size (suc s)) (size (suc s + k) + 1)
            ∙ sym (mul_assoc (size (suc s + k) + 1) r.0 (stride size (suc s))),
      )
    where
      next : (t : ℕ) → stride size (suc t) ≡ stride size t * (size t + 1)
      next t = unfold stride in refl

  module _ (left : ℕ → ℕ) where
    -- the number of a state is below the number of states
    pub state-low : (n : ℕ) → ((t : ℕ) → t < n → left t ≤ size t) → state size left n < stride size n
    unfolding state stride
    state-low zero h = omega arith
    state-low (suc n) h =
        let r = state-low n (λ t l. h t (omega arith)) in
        let m = mul-le-mul_right (stride size n) (h n (omega arith)) in
        omega (arith, mul_comm (stride size n) (size n))

    last_digit : (n : ℕ) → ((t : ℕ) → t < n → left t ≤ size t) → left n ≤ size n
        → (state size left n + left n * stride size n) / stride size n % (size n + 1) ≡ left n
    last_digit n h l =
        let d : (state size left n + left n * stride size n) / stride size n ≡ left n =
        add-mul-div_right (state size left n) (left n) (stride_pos n)
        ∙ ap (λ (v : ℕ). v + left n) (div-eq_of_lt (state-low n h)) ∙ zero-add (left n)
        in
        ap (λ (v : ℕ). v % (size n + 1)) d ∙ mod-eq_of_lt (omega arith)

    early-digit : (n s : ℕ) → s < n
        → (state size left n + left n * stride size n) / stride size s % (size s + 1)
        ≡ state size left n / stride size s % (size s + 1)
    early-digit n s h =
        let k : suc s + (n - suc s) ≡ n = omega arith in
        let r = multiple s (n - suc s) in
        let b : ℕ = size s + 1 in
        let e : left n * stride size n ≡ left n * r.0 * b * stride size s =
        ap (λ (v : ℕ). left n * v) (ap (stride size) (sym k) ∙ r.1 ∙ ap (λ (v : ℕ). r.0 * v) (next s))
        ∙ regroup (left n) r.0 (stride size s) b
        in
        ap (λ (v : ℕ). (state size left n + v) / stride size s % b) e
        ∙ ap (λ (v : ℕ). v % b) (add-mul-div_right (state size left n) (left n * r.0 * b) (stride_pos s))
        ∙ add-mul-mod_self_right (state size left n / stride size s) (left n * r.0) b
      where
        next : (t : ℕ) → stride size (suc t) ≡ stride size t * (size t + 1)
        next t = unfold stride in refl

        regroup : (a m c b : ℕ) → a * (m * (c * b)) ≡ a * m * b * c
        regroup a m c b = omega arith

    -- its digits are the losses left
    pub digit : (n s : ℕ) → s < n → ((t : ℕ) → t < n → left t ≤ size t)
        → state size left n / stride size s % (size s + 1) ≡ left s
    unfolding state
    digit zero s h b = absurd (omega arith)
    digit (suc n) s h b =
        go (ℕ_discrete s n) (λ l. digit n s l (λ t m. b t (omega arith)))
      where
        go : Dec (s ≡ n) → (s < n → state size left n / stride size s % (size s + 1) ≡ left s)
            → (state size left n + left n * stride size n) / stride size s % (size s + 1) ≡ left s
        go (yes e) r = rw e (last_digit n (λ t m. b t (omega arith)) (b n (omega arith)))
        go (no e) r = early-digit n s (omega arith) ∙ r (omega arith)

  -- the state in which nothing is left is the first
  pub state-none : (left : ℕ → ℕ) (n : ℕ) → ((t : ℕ) → t < n → left t ≡ 0) → state size left n ≡ 0
  unfolding state
  state-none left zero h = refl
  state-none left (suc n) h =
      let r = state-none left n (λ t l. h t (omega arith)) in
      let z : left n * stride size n ≡ 0 =
      ap (λ (v : ℕ). v * stride size n) (h n (omega arith)) ∙ zero-mul (stride size n) in
      omega arith

  -- states with the same losses left have one number
  pub state-same : (a b : ℕ → ℕ) (n : ℕ) → ((t : ℕ) → t < n → a t ≡ b t) → state size a n ≡ state size b n
  unfolding state
  state-same a b zero h = refl
  state-same a b (suc n) h =
      ap₂ (λ (u v : ℕ). u + v * stride size n) (state-same a b n (λ t l. h t (omega arith))) (h n (omega arith))

  -- where only block s has another number of losses left, the numbers of two states differ by what these count
  pub state_but : (a b : ℕ → ℕ) (n s : ℕ) → s < n → ((t : ℕ) → t < n → (t ≡ s → ⊥) → a t ≡ b t)
      → state size a n + b s * stride size s ≡ state size b n + a s * stride size s
  unfolding state
  state_but a b zero s h same = absurd (omega arith)
  state_but a b (suc n) s h same = go (ℕ_discrete s n) (λ l. state_but a b n s l (λ t k d. same t (omega arith) d))
    where
      go : Dec (s ≡ n) → (s < n → state size a n + b s * stride size s ≡ state size b n + a s * stride size s)
          → state size a n + a n * stride size n + b s * stride size s
          ≡ state size b n + b n * stride size n + a s * stride size s
      go (yes e) r = rw (state-same a b n (λ t l. same t (omega arith) (λ q. omega arith)), e) (omega arith)
      go (no e) r = rw (same n (omega arith) (λ q. e (sym q))) (omega (arith, r (omega arith)))

  -- one loss less lowers the number by the block's stride
  pub state_lowered : (left : ℕ → ℕ) (n s : ℕ) → s < n → 0 < left s
      → state size (lowered left s) n + stride size s ≡ state size left n
  unfolding state
  state_lowered left zero s h p = absurd (omega arith)
  state_lowered left (suc n) s h p = go (ℕ_discrete s n) (λ l. state_lowered left n s l p)
    where
      go : Dec (s ≡ n) → (s < n → state size (lowered left s) n + stride size s ≡ state size left n)
          → state size (lowered left s) n + lowered left s n * stride size n + stride size s
          ≡ state size left n + left n * stride size n
      go (yes e) r =
          let same : state size (lowered left s) n ≡ state size left n =
          state-same (lowered left s) left n (λ t l. lowered_other left s t (λ q. omega arith))
          in
          let own : lowered left s n ≡ left n - 1 =
          ap (lowered left s) (sym e) ∙ lowered_there left s ∙ ap (λ (v : ℕ). left v - 1) e
          in
          let one : (left n - 1) * stride size n + stride size n ≡ left n * stride size n =
          less (left n) (stride size n) (rw (← e) p)
          in
          rw (same, own, e) (omega arith)
        where
          less : (a b : ℕ) → 0 < a → (a - 1) * b + b ≡ a * b
          less (suc a) b h = omega (arith, ap (λ (v : ℕ). v * b) (sub-one (suc a)))
          less zero b h = absurd (omega arith)
      go (no e) r =
          let other : lowered left s n ≡ left n = lowered_other left s n (λ q. e (sym q)) in
          rw other (omega (arith, r (omega arith)))

  -- with no more left in any block the number is no higher
  pub state_up : (a b : ℕ → ℕ) (n : ℕ) → ((t : ℕ) → t < n → a t ≤ b t) → state size a n ≤ state size b n
  unfolding state
  state_up a b zero h = omega arith
  state_up a b (suc n) h =
      omega (arith, state_up a b n (λ t l. h t (omega arith)), mul-le-mul_right (stride size n) (h n (omega arith)))

  -- states with one number have the same losses left
  pub state-only : (a b : ℕ → ℕ) (n : ℕ) → ((t : ℕ) → t < n → a t ≤ size t) → ((t : ℕ) → t < n → b t ≤ size t)
      → state size a n ≡ state size b n → (s : ℕ) → s < n → a s ≡ b s
  state-only a b n ha hb e s h =
      sym (digit a n s h ha) ∙ ap (λ (q : ℕ). q / stride size s % (size s + 1)) e ∙ digit b n s h hb

-- bytes: six of them make at most 256 ^ 6 states
pub byte_strides : (xs : List ℕ) (s : ℕ) → s ≤ 6 → ((t : ℕ) → t < s → get_or xs t 0 ≤ 255)
    → stride (each xs) s ≤ 281474976710656
byte_strides xs s h bytes =
    omega (arith, stride-high (each xs) s bytes, pow-le-pow_right {n = 256} (omega arith) h)

-- ---- the state with a number
-- the losses left in it
abbrev pub digits_of : (size : ℕ → ℕ) (q : ℕ) → ℕ → ℕ
digits_of size q s = q / stride size s % (size s + 1)

-- the number of the state whose digits are those of q, and what is above them
state-digits : (size : ℕ → ℕ) (q n : ℕ)
    → state size (digits_of size q) n + q / stride size n * stride size n ≡ q
unfolding state stride
state-digits size q zero = omega (arith, div-one q)
state-digits size q (suc n) =
    let a = stride size n in
    let b = size n + 1 in
    let m = q / a in
    let up : q / (a * b) ≡ m / b = sym (div-div-eq-div-mul q a b) in
    let own : m / b * b * a + m % b * a ≡ m * a = split (m / b * b) (m % b) m a (div-add-mod' m b) in
    let high : m / b * (a * b) ≡ m / b * b * a = regroup (m / b) a b in
    rw up (omega (arith, state-digits size q n, own, high))
  where
    split : (u v m a : ℕ) → u + v ≡ m → u * a + v * a ≡ m * a
    split u v m a e = rw (← e) (omega arith)

    regroup : (m a b : ℕ) → m * (a * b) ≡ m * b * a
    regroup m a b = omega arith

pub state_of_is : (size : ℕ → ℕ) (q n : ℕ) → q < stride size n → state size (digits_of size q) n ≡ q
state_of_is size q n low =
    let z : q / stride size n ≡ 0 = div-eq_of_lt low in
    omega (arith, rw z at (state-digits size q n))

-- no block has more left than it has at most
pub digits-most : (size : ℕ → ℕ) (q s : ℕ) → digits_of size q s ≤ size s
digits-most size q s = omega (arith, mod-lt (q / stride size s) {m = size s + 1} (omega arith))
