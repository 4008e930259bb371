-- Exactly one string of w bits has a given sum and gives the bits y by one deletion: `unique` says that there is at
-- most one, `exists` that there is at least one, `mended-mends` and `mended-only` that `mended` is the one. The field
-- calls it the correction of a single deletion. Assumes nothing.
use Prim.Native.Nat.{ℕ, zero, suc, ◌+◌, ◌-◌, ◌%◌, ◌<◌, ◌≤◌}
use mathlib.Core.Path.{◌≡◌, refl, sym, ap, ◌∙◌, subst}
use mathlib.Core.Bool.{true}
use mathlib.Core.Logic.{◌⊎◌, inl, inr, ⊎_elim}
use mathlib.Core.List.{List, [], ◌∷◌, ◌++◌}
use native.Mathlib.Nat.{mod-eq_of_lt, mod-eq-sub-mod, mod-lt, mod-add-mod, add-mod-mod, add-mod_right}
use native.Mathlib.Omega.{arith}
use borrow.Author.Tests.{eq-eqb, eqb-true}
use lib.Dec.{eqb}
use lib.ListN.{length, take, drop}
use Rattle.bits.specs.Bits.{AllBits}
use Rattle.bits.proofs.Laws.{lt_or_ge, both_left, both_right}
use Rattle.rows.specs.Deletion.{comes_from}
use Rattle.rows.specs.Order.{Row}
use Rattle.rows.proofs.Deletion.{One, here, there, one, one_passes, comes-length, comes-bits}
use Rattle.rows.proofs.Single.{only_one}
use Rattle.vt.specs.Mend.{mends, mended}
use Rattle.vt.specs.Ones.{ones}
use Rattle.vt.specs.Sum.{total, sum}
use Rattle.vt.proofs.Gain.{gain, total_gain, gain_top, same_gain}
use Rattle.vt.proofs.Totals.{place, reach-start}

-- x is a string of w bits with the sum s, and y comes from it by one deletion
pub record Mends (w s : ℕ) (y x : List ℕ) : Type 0 where
  pub row : Row w x
  pub has_sum : sum x ≡ s
  pub comes : comes_from x 1 y ≡ true

-- a remainder below twice the divisor
reduce : (v m : ℕ) → 0 < m → v < m + m → ((v < m) × (v % m ≡ v)) ⊎ ((m ≤ v) × (v % m ≡ v - m))
reduce v m h k =
    ⊎_elim (λ p. inl (p, mod-eq_of_lt p)) (λ p. inr (p, mod-eq-sub-mod p ∙ mod-eq_of_lt (omega arith))) (lt_or_ge v m)

-- what is added to a is known from the remainder
pub same_mod : (a g h m : ℕ) → g < m → h < m → (a + g) % m ≡ (a + h) % m → g ≡ h
same_mod a g h m p q e =
    let r : ℕ = a % m in
    let l : r < m = mod-lt a (omega arith) in
    let w : (r + g) % m ≡ (r + h) % m = mod-add-mod a m g ∙ e ∙ sym (mod-add-mod a m h) in
    ⊎_elim
    (λ x. ⊎_elim (λ y. omega (arith, x.1, y.1)) (λ y. absurd (omega (arith, x.1, y.0, y.1)))
    (reduce (r + h) m (omega arith) (omega arith)))
    (λ x. ⊎_elim (λ y. absurd (omega (arith, x.0, x.1, y.1))) (λ y. omega (arith, x.0, x.1, y.0, y.1))
    (reduce (r + h) m (omega arith) (omega arith)))
    (reduce (r + g) m (omega arith) (omega arith))

-- the sum is the remainder of y's total and what the deleted bit adds
sum_gain : (x y : List ℕ) (d : One x y) → length x ≡ 1 + length y → sum x ≡ (total 1 y + gain 1 d) % (length y + 2)
unfolding sum
sum_gain x y d h = let e : length x + 1 ≡ length y + 2 = omega arith in rw (total_gain 1 d, e) refl

-- at most one: two strings of bits with the same sum, from both of which y comes by one deletion, are equal; that they
-- are of one length follows, since each is one bit longer than y
pub unique : (x z y : List ℕ) → AllBits x → AllBits z → sum x ≡ sum z → comes_from x 1 y ≡ true → comes_from z 1 y ≡ true
    → x ≡ z
unique x z y ax az e p q =
    let d = one x y p in
    let f = one z y q in
    let ay = comes-bits x 1 y p ax in
    let g : gain 1 d ≡ gain 1 f =
    same_mod (total 1 y) (gain 1 d) (gain 1 f) (length y + 2) (gain_top d ax ay) (gain_top f az ay)
    (sym (sum_gain x y d (comes-length x 1 y p)) ∙ e ∙ sum_gain z y f (comes-length z 1 y q)) in
    same_gain 1 d f (omega arith) ax az ay g

-- what is to be added to a for the remainder s
pub lack : (a s m : ℕ) → s < m → (a + (s + m - a % m) % m) % m ≡ s
lack a s m h =
    let l : a % m < m = mod-lt a (omega arith) in
    let e : a % m + (s + m - a % m) ≡ s + m = omega arith in
    add-mod-mod a (s + m - a % m) m ∙ sym (mod-add-mod a m (s + m - a % m)) ∙ ap (λ (v : ℕ). v % m) e
    ∙ add-mod_right s m ∙ mod-eq_of_lt h

-- it is below m
pub lack_small : (a s m n : ℕ) → 0 < m → m ≤ n + 1 → (s + m - a % m) % m ≤ n
lack_small a s m n h k = let l = mod-lt (s + m - a % m) {m = m} h in omega arith

-- from a string with a bit put in, the string comes by one deletion
put_in : (k b : ℕ) (y : List ℕ) → One (take k y ++ (b ∷ drop k y)) y
put_in zero b y = here
put_in (suc k) b [] = here
put_in (suc k) b (c ∷ y) = there (put_in k b y)

-- and its elements are bits
put-bits : (k b : ℕ) (y : List ℕ) → b < 2 → AllBits y → AllBits (take k y ++ (b ∷ drop k y))
put-bits zero b y h a = (h, a)
put-bits (suc k) b [] h a = (h, tt)
put-bits (suc k) b (c ∷ y) h a = (a.0, put-bits k b y h a.1)

-- a bit put in that adds what the sum lacks mends y
pub puts : (k b t s : ℕ) (y : List ℕ) → AllBits y → b < 2 → total 1 (take k y ++ (b ∷ drop k y)) ≡ total 1 y + t
    → (total 1 y + t) % (length y + 2) ≡ s → Mends (length y + 1) s y (take k y ++ (b ∷ drop k y))
unfolding sum
puts k b t s y a small e f =
    let c = one_passes (put_in k b y) in
    let n : length (take k y ++ (b ∷ drop k y)) ≡ length y + 1 =
    omega (arith, comes-length (take k y ++ (b ∷ drop k y)) 1 y c) in
    let m : length (take k y ++ (b ∷ drop k y)) + 1 ≡ length y + 2 = omega arith in
    record { row = (n, put-bits k b y small a); has_sum = rw (m, e) f; comes = c }

-- at least one: for a sum at most w there is a string of w bits with that sum from which y comes by one deletion
pub exists : (w s : ℕ) (y : List ℕ) → AllBits y → length y + 1 ≡ w → s ≤ w → (x : List ℕ) × Mends w s y x
exists w s y a n h =
    let m : ℕ = length y + 2 in
    let t : ℕ = (s + m - total 1 y % m) % m in
    let l : t < m = mod-lt (s + m - total 1 y % m) (omega arith) in
    let p = place 1 t w y a (omega arith) (reach-start t (ones y) w (omega arith)) in
    let x = take p.at y ++ (p.bit ∷ drop p.at y) in (
      x,
      subst (λ (v : ℕ). Mends v s y x) n
          (puts p.at p.bit t s y a p.small p.adds (lack (total 1 y) s m (omega arith))),
    )

-- the test that picks the mended string
passes : (w s : ℕ) (y x : List ℕ) → Mends w s y x → mends s y x ≡ true
unfolding mends
passes w s y x p = rw (eq-eqb (sum x) s p.has_sum, p.comes) refl

of_passes : (s : ℕ) (y x : List ℕ) → mends s y x ≡ true → (sum x ≡ s) × (comes_from x 1 y ≡ true)
unfolding mends
of_passes s y x h =
    (eqb-true (sum x) s (both_left (eqb (sum x) s) (comes_from x 1 y) h), both_right (eqb (sum x) s) (comes_from x 1 y) h)

-- whatever string mends y is the mended string
pub mended-only : (w s : ℕ) (y x : List ℕ) → Mends w s y x → x ≡ mended w s y
unfolding mended
mended-only w s y x p =
    sym (only_one (mends s y) w x p.row (passes w s y x p)
    (λ z r h. let q = of_passes s y z h in unique z x y r.1 p.row.1 (q.0 ∙ sym p.has_sum) q.1 p.comes))

-- the mended string mends y: it has w bits and the sum s, and y comes from it by one deletion
pub mended-mends : (w s : ℕ) (y : List ℕ) → AllBits y → length y + 1 ≡ w → s ≤ w → Mends w s y (mended w s y)
mended-mends w s y a n h =
    let k = exists w s y a n h in
    subst (λ (x : List ℕ). Mends w s y x) (mended-only w s y k.0 k.1) k.1

-- a slice that starts with a string that mends y starts with the mended string
pub starts-mended : (w s : ℕ) (y x o q : List ℕ) → Mends w s y x → q ≡ x ++ o → q ≡ mended w s y ++ o
starts-mended w s y x o q p e = e ∙ ap (λ (l : List ℕ). l ++ o) (mended-only w s y x p)
