-- Sums over places, and how many places of two lists differ. Rests on the erasures' law of two rows with the same
-- checks. Assumes nothing.
use Prim.Native.Nat.{ℕ, zero, suc, ◌+◌, ◌-◌, ◌<◌, ◌≤◌}
use mathlib.Core.Path.{◌≡◌, refl, sym, ap, ap₂, ◌∙◌}
use mathlib.Core.Bool.{Bool, true, false, cond}
use mathlib.Core.List.{List, [], ◌∷◌}
use native.Mathlib.Decide.{ℕ_discrete}
use native.Mathlib.Nat.{zero-add}
use native.Mathlib.Omega.{arith}
use borrow.Author.Tests.{eq-eqb, ne_eqb}
use lib.Bits.{bit_xor, xor_self}
use lib.Dec.{eqb}
use lib.ListN.{length}
use Rattle.field.specs.Linear.{xor_each}
use Rattle.field.proofs.Xor.{xor_same}
use Rattle.erasures.specs.Erasures.{weight}
use Rattle.anchor.specs.Anchor.{over}
use Rattle.lines.specs.Lines.{unlike}

-- ---- sums over places
pub over_none : (f : ℕ → ℕ) (c : ℕ) → over f c 0 ≡ 0
unfolding over
over_none f c = refl

over_suc : (f : ℕ → ℕ) (c n : ℕ) → over f c (suc n) ≡ over f c n + f (c + n)
unfolding over
over_suc f c n = refl

-- one place more
pub over-next : (f : ℕ → ℕ) (c n : ℕ) → over f c (n + 1) ≡ over f c n + f (c + n)
over-next f c n = let e : n + 1 ≡ suc n = omega arith in rw e (over_suc f c n)

-- the places from c up to a place t: none at c itself, and one more at each
pub over-start : (f : ℕ → ℕ) (c : ℕ) → over f c (c - c) ≡ 0
over-start f c = let z : c - c ≡ 0 = omega arith in rw z (over_none f c)

pub over_up : (f : ℕ → ℕ) (c t : ℕ) → c ≤ t → over f c (t + 1 - c) ≡ over f c (t - c) + f t
over_up f c t h =
    let e : t + 1 - c ≡ t - c + 1 = omega arith in
    let k : c + (t - c) ≡ t = omega arith in
    ap (over f c) e ∙ over-next f c (t - c) ∙ ap (λ (n : ℕ). over f c (t - c) + f n) k

-- a sum splits at any place
pub over_split : (f : ℕ → ℕ) (c a b : ℕ) → over f c (a + b) ≡ over f c a + over f (c + a) b
over_split f c a zero = let e : a + 0 ≡ a = omega arith in rw (e, over_none f (c + a)) (omega arith)
over_split f c a (suc b) =
    let e : a + suc b ≡ suc (a + b) = omega arith in
    let p : f (c + (a + b)) ≡ f (c + a + b) = ap f (omega arith) in
    ap (over f c) e ∙ omega (arith, over_suc f c (a + b), over_split f c a b, over_suc f (c + a) b)

pub over_front : (f : ℕ → ℕ) (a b : ℕ) → over f 0 (a + b) ≡ over f 0 a + over f a b
over_front f a b = over_split f 0 a b ∙ ap (λ (c : ℕ). over f 0 a + over f c b) (zero-add a)

-- the sum depends on its places alone
pub over-same : (f g : ℕ → ℕ) (c n : ℕ) → ((t : ℕ) → t < n → f (c + t) ≡ g (c + t)) → over f c n ≡ over g c n
unfolding over
over-same f g c zero h = refl
over-same f g c (suc n) h = ap₂ (λ (a b : ℕ). a + b) (over-same f g c n (λ t k. h t (omega arith))) (h n (omega arith))

-- if at each place f and what was lost before it are at most g and what was lost after it, so are the sums
pub over-lost : (f g lost : ℕ → ℕ) (c n : ℕ) → ((t : ℕ) → t < n → f (c + t) + lost (c + t) ≤ g (c + t) + lost (c + t + 1))
    → over f c n + lost c ≤ over g c n + lost (c + n)
unfolding over
over-lost f g lost c zero h = let e : lost (c + 0) ≡ lost c = ap lost (omega arith) in omega arith
over-lost f g lost c (suc n) h =
    let e : lost (c + suc n) ≡ lost (c + n + 1) = ap lost (omega arith) in
    omega (arith, over-lost f g lost c n (λ t k. h t (omega arith)), h n (omega arith))

-- ---- how many places of two lists differ
pub most-one : (b : Bool) → cond b 0 1 ≤ 1
most-one true = omega arith
most-one false = omega arith

unlike-xor : (a b : ℕ) → ◌≡◌ {A = ℕ} (cond (eqb (bit_xor a b) 0) 0 1) (cond (eqb a b) 0 1)
unlike-xor a b = go (ℕ_discrete a b)
  where
    go : Dec (a ≡ b) → ◌≡◌ {A = ℕ} (cond (eqb (bit_xor a b) 0) 0 1) (cond (eqb a b) 0 1)
    go (yes e) = rw (eq-eqb a b e, eq-eqb (bit_xor a b) 0 (ap (bit_xor a) (sym e) ∙ xor_self a)) refl
    go (no n) = rw (ne_eqb a b n, ne_eqb (bit_xor a b) 0 (λ z. n (xor_same a b z))) refl

-- the sum over the later places of two lists
over_tail : (x z : ℕ) (xs zs : List ℕ) (n : ℕ) → over (unlike (x ∷ xs) (z ∷ zs)) 1 n ≡ over (unlike xs zs) 0 n
unfolding over
over_tail x z xs zs zero = refl
over_tail x z xs zs (suc n) =
    let e : 1 + n ≡ suc (0 + n) = omega arith in
    rw (e, over_tail x z xs zs n) refl

pub weight-unlike : (xs zs : List ℕ) → length xs ≡ length zs → weight (xor_each xs zs) ≡ over (unlike xs zs) 0 (length xs)
unfolding weight xor_each
weight-unlike [] zs n = sym (over_none (unlike [] zs) 0)
weight-unlike (x ∷ xs) [] n = absurd (omega arith)
weight-unlike (x ∷ xs) (z ∷ zs) n =
    let e : suc (length xs) ≡ 1 + length xs = omega arith in
    ap₂ (λ (a b : ℕ). a + b) (unlike-xor x z) (weight-unlike xs zs (omega arith))
    ∙ sym (ap (over (unlike (x ∷ xs) (z ∷ zs)) 0) e ∙ over_split (unlike (x ∷ xs) (z ∷ zs)) 0 1 (length xs)
    ∙ ap₂ (λ (a b : ℕ). a + b) (first x z xs zs) (over_tail x z xs zs (length xs)))
  where
    first : (x z : ℕ) (xs zs : List ℕ) → over (unlike (x ∷ xs) (z ∷ zs)) 0 1 ≡ cond (eqb x z) 0 1
    first x z xs zs = unfold over in omega arith
