-- Strings of bits that have their first bits in common: what comes next decides their order. Assumes nothing.
use Prim.Native.Nat.{ℕ, zero, suc, ◌+◌, ◌-◌, ◌*◌, ◌^◌, ◌<◌, ◌≤◌}
use mathlib.Core.Path.{◌≡◌, refl, sym, ap, ap₂, ◌∙◌}
use mathlib.Core.Logic.{inl, inr}
use mathlib.Core.List.{List, [], ◌∷◌, ◌++◌}
use native.Mathlib.Omega.{arith}
use lib.ListN.{length, get_or, take, drop, length-drop}
use lib.Seq.{take-add}
use Rattle.bits.specs.Bits.{AllBits, number}
use Rattle.bits.proofs.Laws.{number_lt, bits-drop}
use Rattle.rows.specs.Order.{Less, Ascending, After}
use Rattle.rows.proofs.Order.{less_trans}

-- the order of the rest is theirs
pub less-drop : (g : ℕ) (z x : List ℕ) → take g x ≡ take g z → Less (drop g z) (drop g x) → Less z x
less-drop zero z x e h = h
less-drop (suc g) [] [] e h = h
less-drop (suc g) [] (b ∷ x) e h = tt
less-drop (suc g) (a ∷ z) [] e h = absurd (omega (arith, ap (length {A = ℕ}) e))
less-drop (suc g) (a ∷ z) (b ∷ x) e h =
    inr (sym (ap (λ (l : List ℕ). get_or l 0 0) e), less-drop g z x (ap (drop 1) e) h)

-- a string that comes before a shorter one does so by its first bits
pub less-take : (n : ℕ) (z x : List ℕ) → length x ≤ n → Less z x → Less (take n z) x
less-take zero [] [] h l = l
less-take zero (a ∷ z) [] h l = absurd l
less-take zero z (b ∷ x) h l = absurd (omega arith)
less-take (suc n) [] x h l = l
less-take (suc n) (a ∷ z) [] h l = l
less-take (suc n) (a ∷ z) (b ∷ x) h (inl k) = inl k
less-take (suc n) (a ∷ z) (b ∷ x) h (inr k) = inr (k.0, less-take n z x (omega arith) k.1)

-- the lower number of the first k bits comes before
number-less : (k : ℕ) (z x : List ℕ) → AllBits z → AllBits x → k ≤ length z → k ≤ length x → number k z < number k x
    → Less z x
unfolding number
number-less zero z x p q h i l = absurd (omega arith)
number-less (suc k) [] x p q h i l = absurd (omega arith)
number-less (suc k) (a ∷ z) [] p q h i l = absurd (omega arith)
number-less (suc k) (a ∷ z) (b ∷ x) p q h i l =
    go a b p.0 q.0 l (number-less k z x p.1 q.1 (omega arith) (omega arith))
  where
    go : (a b : ℕ) → a < 2 → b < 2 → a * 2 ^ k + number k z < b * 2 ^ k + number k x
        → (number k z < number k x → Less z x) → Less (a ∷ z) (b ∷ x)
    go zero zero m n l f = inr (refl, f (omega arith))
    go zero (suc zero) m n l f = inl (omega arith)
    go (suc zero) zero m n l f = absurd (omega (arith, number_lt k x q.1))
    go (suc zero) (suc zero) m n l f = inr (refl, f (omega arith))
    go zero (suc (suc b)) m n l f = absurd (omega arith)
    go (suc zero) (suc (suc b)) m n l f = absurd (omega arith)
    go (suc (suc a)) b m n l f = absurd (omega arith)

-- where the first k bits spell the same number they are the same
number_same : (k : ℕ) (z x : List ℕ) → AllBits z → AllBits x → k ≤ length z → k ≤ length x → number k x ≡ number k z
    → take k x ≡ take k z
unfolding number
number_same zero z x p q h i e = refl
number_same (suc k) [] x p q h i e = absurd (omega arith)
number_same (suc k) (a ∷ z) [] p q h i e = absurd (omega arith)
number_same (suc k) (a ∷ z) (b ∷ x) p q h i e =
    go a b p.0 q.0 e (number_same k z x p.1 q.1 (omega arith) (omega arith))
  where
    go : (a b : ℕ) → a < 2 → b < 2 → b * 2 ^ k + number k x ≡ a * 2 ^ k + number k z
        → (number k x ≡ number k z → take k x ≡ take k z) → b ∷ take k x ≡ a ∷ take k z
    go zero zero m n e f = ap (λ (l : List ℕ). 0 ∷ l) (f (omega arith))
    go zero (suc zero) m n e f = absurd (omega (arith, number_lt k z p.1))
    go (suc zero) zero m n e f = absurd (omega (arith, number_lt k x q.1))
    go (suc zero) (suc zero) m n e f = ap (λ (l : List ℕ). 1 ∷ l) (f (omega arith))
    go zero (suc (suc b)) m n e f = absurd (omega arith)
    go (suc zero) (suc (suc b)) m n e f = absurd (omega arith)
    go (suc (suc a)) b m n e f = absurd (omega arith)

-- a number of one bit is the bit
pub number-one : (x : List ℕ) → number 1 x ≡ get_or x 0 0
unfolding number
number-one [] = refl
number-one (b ∷ x) = omega arith

-- two strings with their first g bits in common, and the k bits behind these
module _ (z x : List ℕ) (zb : AllBits z) (xb : AllBits x) (g k : ℕ) (zl : g + k ≤ length z) (xl : g + k ≤ length x)
    (common : take g x ≡ take g z) where
  pub part_after : number k (drop g z) < number k (drop g x) → Less z x
  part_after l =
      let zn = length-drop g z in
      let xn = length-drop g x in
      less-drop g z x common
      (number-less k (drop g z) (drop g x) (bits-drop g z zb) (bits-drop g x xb) (omega arith) (omega arith) l)

  pub part_same : number k (drop g x) ≡ number k (drop g z) → take (g + k) x ≡ take (g + k) z
  part_same e =
      let zn = length-drop g z in
      let xn = length-drop g x in
      let s = number_same k (drop g z) (drop g x) (bits-drop g z zb) (bits-drop g x xb) (omega arith) (omega arith) e in
      take-add g k x ∙ ap₂ (λ (p q : List ℕ). p ++ q) common s ∙ sym (take-add g k z)

-- what comes after the last of ordered rows comes after all of them
pub after-all : (rows : List (List ℕ)) (x : List ℕ) → Ascending rows → 0 < length rows
    → Less (get_or rows (length rows - 1) []) x → After rows x
after-all [] x a h l = absurd (omega arith)
after-all (y ∷ []) x a h l = (l, tt)
after-all (y ∷ z ∷ rows) x a h l =
    let n : suc (suc (length rows)) - 1 ≡ suc (length rows) = omega arith in
    let m : suc (length rows) - 1 ≡ length rows = omega arith in
    let rest = after-all (z ∷ rows) x a.1 (omega arith) (rw m (rw n at l)) in
    (less_trans y z x a.0.0 rest.0, rest)
