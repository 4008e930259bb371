-- Sets of residues as the bits of words: where a residue's bit stands, what a word that is read or put in holds, and how a
-- set that stands twice is moved into another. Rests on the laws of the crate residues. Assumes nothing.
use Rattle.std.proofs.Common.{ℕ, ◌+◌, ◌-◌, ◌*◌, ◌/◌, ◌%◌, ◌^◌, ◌<◌, ◌≤◌, ◌≡◌, ap, ◌∙◌, ⊎_elim, List, mod-lt, mod-eq_of_lt, arith, bit_or, length, get_or, set, get_or-set_same, get_or-set_other}
use Rattle.std.proofs.Math.Decide.{ℕ_discrete, dec_lt}
use Rattle.std.proofs.Math.Nat.{add-mul-mod_self_right, mod-add-mod, add-mod-mod}
use Rattle.bits.proofs.Laws.{lt_or_ge}
use Rattle.residues.proofs.Words.{bit_low, bit_up, bit_down, or_one, or_other, one_has, one_bit}
use Rattle.sets.specs.Sets.{One, In, Grows, Twice, Moved, MovedTwice}

-- ---- words
-- bit b of word q is the residue 64 q + b
pub in_word : (xs : List ℕ) (q b r : ℕ) → b < 64 → r ≡ 64 * q + b → One (get_or xs q 0) b → In xs r
in_word xs q b r h e x =
    let word : r / 64 ≡ q = omega arith in
    let bit : r % 64 ≡ b = omega arith in
    rw (word, bit) x

pub word_in : (xs : List ℕ) (q b r : ℕ) → b < 64 → r ≡ 64 * q + b → In xs r → One (get_or xs q 0) b
word_in xs q b r h e x =
    let word : r / 64 ≡ q = omega arith in
    let bit : r % 64 ≡ b = omega arith in
    rw (word, bit) at x

-- what holds below 64 i, and of the n numbers from there on, holds of each number up to their end
pub below_word : (P : ℕ → Type 0) (i n : ℕ) → ((k : ℕ) → k < 64 * i → P k) → ((b : ℕ) → b < n → P (64 * i + b))
    → (k : ℕ) → k < 64 * i + n → P k
below_word P i n low high k h = ⊎_elim (low k) behind (lt_or_ge k (64 * i))
  where
    behind : 64 * i ≤ k → P k
    behind g =
        let e : 64 * i + (k - 64 * i) ≡ k = omega arith in
        rw e at (high (k - 64 * i) (omega arith))

-- the 64 bits from place p on: the upper ones of a word and the lower ones of the next
abbrev pub word_from : (xs : List ℕ) (p : ℕ) → ℕ
word_from xs p =
    bit_or (get_or xs (p / 64) 0 / 2 ^ (p % 64)) (get_or xs (p / 64 + 1) 0 * 2 ^ (63 - p % 64) % 2 ^ 64 * 2 ^ 1 % 2 ^ 64)

pub read_word : (xs : List ℕ) (p b : ℕ) → b < 64 → In xs (p + b) → One (word_from xs p) b
read_word xs p b h x = ⊎_elim here next (lt_or_ge (s + b) 64)
  where
    q : ℕ
    q = p / 64

    s : ℕ
    s = p % 64

    low : s < 64
    low = omega arith

    here : s + b < 64 → One (word_from xs p) b
    here g =
        or_one (get_or xs q 0 / 2 ^ s) _ b
        (bit_down (get_or xs q 0) s b ∙ word_in xs q (s + b) (p + b) g (omega arith) x)

    next : 64 ≤ s + b → One (word_from xs p) b
    next g =
        let k : ℕ = s + b - 64 in
        let y : ℕ = get_or xs (q + 1) 0 in
        let e : b ≡ 1 + (63 - s + k) = omega arith in
        or_other (get_or xs q 0 / 2 ^ s) _ b
        (rw e
        (bit_up (y * 2 ^ (63 - s) % 2 ^ 64) 1 (63 - s + k) (omega arith) ∙ bit_up y (63 - s) k (omega arith)
        ∙ word_in xs (q + 1) k (p + b) (omega arith) (omega arith) x))

-- a word that is put into another takes nothing out of a set, and its bits are in
abbrev pub with_word : (xs : List ℕ) (i w : ℕ) → List ℕ
with_word xs i w = set xs i (bit_or (get_or xs i 0) w)

module _ (xs : List ℕ) (i w : ℕ) (h : i < length xs) where
  word : get_or (with_word xs i w) i 0 ≡ bit_or (get_or xs i 0) w
  word = get_or-set_same xs i (bit_or (get_or xs i 0) w) 0 h

  pub word_grows : Grows xs (with_word xs i w)
  word_grows r x = go (ℕ_discrete (r / 64) i)
    where
      go : Dec (r / 64 ≡ i) → In (with_word xs i w) r
      go (yes e) = rw (e, word) (or_one (get_or xs i 0) w (r % 64) (rw e at x))
      go (no e) = rw (get_or-set_other xs i (r / 64) (bit_or (get_or xs i 0) w) 0 e) x

  pub word_put : (b : ℕ) → b < 64 → One w b → In (with_word xs i w) (64 * i + b)
  word_put b k x = in_word (with_word xs i w) i b (64 * i + b) k (omega arith) (rw word (or_other (get_or xs i 0) w b x))

-- a word with one bit puts in one residue
pub one-put : (xs : List ℕ) (r : ℕ)
    → ((b : ℕ) → b < 64 → One (1 * 2 ^ (r % 64) % 2 ^ 64) b → In xs (64 * (r / 64) + b)) → In xs r
one-put xs r put =
    let e : 64 * (r / 64) + r % 64 ≡ r = omega arith in
    rw e at (put (r % 64) (omega arith) (one_has (r % 64) (omega arith)))

-- of the last word the bits of residues modulo m are kept
pub rest_has : (m v b : ℕ) → b < m % 64 → One v b → One (v % (1 * 2 ^ (m % 64) % 2 ^ 64)) b
rest_has m v b h x = rw (one_bit (m % 64) (omega arith)) (bit_low v (m % 64) b h ∙ x)

-- ---- copies
-- a word's bits, moved on by m, stand in two words
module _ (m i v : ℕ) (xs : List ℕ)
    (lower : (b : ℕ) → b < 64 → One (v * 2 ^ (m % 64) % 2 ^ 64) b → In xs (64 * (m / 64 + i) + b))
    (upper : (b : ℕ) → b < 64 → One (v / 2 ^ 1 / 2 ^ (63 - m % 64)) b → In xs (64 * (m / 64 + i + 1) + b)) where
  pub second_in : (b : ℕ) → b < 64 → One v b → In xs (m + (64 * i + b))
  second_in b h x = ⊎_elim here next (lt_or_ge (s + b) 64)
    where
      s : ℕ
      s = m % 64

      low : s < 64
      low = omega arith

      here : s + b < 64 → In xs (m + (64 * i + b))
      here g =
          let e : m + (64 * i + b) ≡ 64 * (m / 64 + i) + (s + b) = omega arith in
          rw e (lower (s + b) g (bit_up v s b g ∙ x))

      next : 64 ≤ s + b → In xs (m + (64 * i + b))
      next g =
          let k : ℕ = s + b - 64 in
          let e : m + (64 * i + b) ≡ 64 * (m / 64 + i + 1) + k = omega arith in
          let z : 1 + (63 - s + k) ≡ b = omega arith in
          rw e
          (upper k (omega arith)
          (bit_down (v / 2 ^ 1) (63 - s) k ∙ bit_down v 1 (63 - s + k) ∙ ap (λ (n : ℕ). v / 2 ^ n % 2) z ∙ x))

-- a set that stands twice is moved in by m bits from m - by on: those of the first copy wrap
pub moved_in : (m by : ℕ) (from to : List ℕ) → by < m → ((i : ℕ) → i < m → In from (m - by + i) → In to i)
    → Moved m by from to
moved_in m by from to h put r k x = go (dec_lt r (m - by))
  where
    go : Dec (r < m - by) → In to ((r + by) % m)
    go (yes d) =
        let z : m - by + (r + by) ≡ m + r = omega arith in
        let w : (r + by) % m ≡ r + by = mod-eq_of_lt (omega arith) in
        rw w (put (r + by) (omega arith) (rw z x.1))
    go (no d) =
        let i : ℕ = r + by - m in
        let z : m - by + i ≡ r = omega arith in
        let e : r + by ≡ i + 1 * m = omega arith in
        let w : (r + by) % m ≡ i =
        ap (λ (v : ℕ). v % m) e ∙ add-mul-mod_self_right i 1 m ∙ mod-eq_of_lt (omega arith) in
        rw w (put i (omega arith) (rw z x.0))

-- moved on by a remainder is moved on by the number
pub moved_rest : (m by b : ℕ) (from to : List ℕ) → by ≡ b % m → Moved m by from to → Moved m b from to
moved_rest m by b from to e t r h x =
    let w : (r + by) % m ≡ (r + b) % m = ap (λ (v : ℕ). (r + v) % m) e ∙ add-mod-mod r b m in
    rw w at (t r h x)

-- moved into a set that grows, it is moved into the grown one
pub moved_grows : (m by : ℕ) (from mid to : List ℕ) → Grows mid to → Moved m by from mid → Moved m by from to
moved_grows m by from mid to grows t r h x = grows ((r + by) % m) (t r h x)

-- and into both copies of a set that takes over what is there
pub moved_over : (m by : ℕ) (from mid to : List ℕ) → 0 < m → ((r : ℕ) → r < m → In mid r → Twice m to r)
    → Moved m by from mid → MovedTwice m by from to
moved_over m by from mid to h over t r k x = over ((r + by) % m) (mod-lt (r + by) h) (t r k x)

-- so is the residue of a sum with what is added, where that of the sum was in both copies
pub next_in : (m known part b : ℕ) (from to : List ℕ) → 0 < m → MovedTwice m b from to
    → Twice m from ((known + part) % m) → Twice m to ((known + (part + b)) % m)
next_in m known part b from to h moved x =
    let r : ℕ = (known + part) % m in
    let w : known + part + b ≡ known + (part + b) = omega arith in
    let e : (r + b) % m ≡ (known + (part + b)) % m = mod-add-mod (known + part) m b ∙ ap (λ (v : ℕ). v % m) w in
    rw e at (moved r (mod-lt (known + part) h) x)
