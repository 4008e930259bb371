-- Greedy matching one bit, and one piece, at a time. Assumes nothing.
use Prim.Native.Nat.{ℕ, ◌+◌, ◌-◌, ◌<◌, ◌≤◌}
use mathlib.Core.Path.{◌≡◌, refl, sym, ap, ◌∙◌}
use mathlib.Core.Bool.{true, false}
use mathlib.Core.List.{List, [], ◌∷◌, ◌++◌}
use native.Mathlib.Nat.{sub-zero}
use native.Mathlib.Numerals.{add-one}
use native.Mathlib.Omega.{arith}
use borrow.Author.Tests.{eq-eqb, ne_eqb, eqb-true}
use borrow.Author.Rules.{part_to_end}
use lib.Dec.{eqb}
use lib.ListN.{length, get_or, take, drop, drop_of_length-le, length-drop}
use lib.Seq.{drop-cons, drop-drop}
use Rattle.bits.proofs.Laws.{both_ways}
use Rattle.rows.specs.Deletion.{comes_from}
use Rattle.consistent.specs.Greedy.{eat, losses}
use Rattle.consistent.proofs.Greedy.{eat-append, losses-append, comes-eat, eat-comes, piece, reads_whole}

-- ---- one bit
-- after a bit b, y goes on at place r instead of j
abbrev pub AfterBit : (b : ℕ) (y : List ℕ) (j r : ℕ) → Type 0
AfterBit b y j r = (r ≤ length y) × ((eat (b ∷ []) (drop j y) ≡ drop r y) × (losses (b ∷ []) (drop j y) + r ≡ j + 1))

pub bit_past : (b : ℕ) (y : List ℕ) (j : ℕ) → j ≤ length y → length y ≤ j → AfterBit b y j j
unfolding eat losses
bit_past b y j h k =
    let e : drop j y ≡ [] = drop_of_length-le y k in
    (h, (rw e refl, rw e (omega arith)))

pub bit_other : (b : ℕ) (y : List ℕ) (j : ℕ) → j < length y → (get_or y j 0 ≡ b → ⊥) → AfterBit b y j j
unfolding eat losses
bit_other b y j h n =
    let e : eqb b (get_or y j 0) ≡ false = ne_eqb b (get_or y j 0) (λ p. n (sym p)) in
    (omega arith, (rw (drop-cons y j 0 h, e) refl, rw (drop-cons y j 0 h, e) (omega arith)))

pub bit_takes : (b : ℕ) (y : List ℕ) (j : ℕ) → j < length y → get_or y j 0 ≡ b → AfterBit b y j (j + 1)
unfolding eat losses
bit_takes b y j h p =
    let e : eqb b (get_or y j 0) ≡ true = eq-eqb b (get_or y j 0) (sym p) in
    (omega arith, (rw (drop-cons y j 0 h, e, add-one j) refl, rw (drop-cons y j 0 h, e) (omega arith)))

-- the bits of x from i on against y from j on are the same a bit later
pub bit_next : (x y : List ℕ) (i j r : ℕ) → i < length x → AfterBit (get_or x i 0) y j r
    → (eat (drop (i + 1) x) (drop r y) ≡ eat (drop i x) (drop j y))
    × (losses (drop i x) (drop j y) + r ≡ j + 1 + losses (drop (i + 1) x) (drop r y))
bit_next x y i j r h s =
    let b : ℕ = get_or x i 0 in
    let z : List ℕ = drop j y in
    let d : drop i x ≡ (b ∷ []) ++ drop (i + 1) x = rw (add-one i) (drop-cons x i 0 h) in
    let e : eat (drop i x) z ≡ eat (drop (i + 1) x) (drop r y) =
    ap (λ (t : List ℕ). eat t z) d ∙ eat-append (b ∷ []) (drop (i + 1) x) z ∙ ap (eat (drop (i + 1) x)) s.1.0 in
    let l : losses (drop i x) z ≡ losses (b ∷ []) z + losses (drop (i + 1) x) (drop r y) =
    ap (λ (t : List ℕ). losses t z) d ∙ losses-append (b ∷ []) (drop (i + 1) x) z
    ∙ ap (λ (t : List ℕ). losses (b ∷ []) z + losses (drop (i + 1) x) t) s.1.0 in
    (sym e, omega (arith, l, s.1.1))

-- and at the end nothing of x is left
pub bits-end : (x y : List ℕ) (i j : ℕ) → length x ≤ i
    → (eat (drop i x) (drop j y) ≡ drop j y) × (losses (drop i x) (drop j y) ≡ 0)
unfolding eat losses
bits-end x y i j h = rw (drop_of_length-le x h) (refl, refl)

-- ---- the whole string
-- y comes from x exactly when x takes all of it
pub comes_is : (x y : List ℕ) (r : ℕ) → r ≤ length y → eat x y ≡ drop r y
    → eqb r (length y) ≡ comes_from x (length x - length y) y
comes_is x y r h e =
    both_ways (eqb r (length y)) (comes_from x (length x - length y) y)
    (λ t. eat-comes x y (e ∙ drop_of_length-le y {i = r} (omega (arith, eqb-true r (length y) t))))
    (λ t. eq-eqb r (length y) (omega (arith, length-drop r y, ap length (sym e ∙ comes-eat x (length x - length y) y t))))

-- a piece that is the first bits of y takes just these
pub whole_eats : (p y : List ℕ) → p ≡ take (length p) y → eat p y ≡ drop (length p) y
whole_eats p y e = (piece (length p) 0 p y refl (reads_whole p y e)).rest ∙ ap (λ (n : ℕ). drop n y) (sub-zero (length p))

-- what is left to be matched after a piece, which takes r bits of y from place at on; the code has these as a part of y
pub piece_eaten : (p x y : List ℕ) (at r : ℕ) → at ≤ length y
    → (r ≤ length (take (length y - at) (drop at y)))
    × (eat p (take (length y - at) (drop at y)) ≡ drop r (take (length y - at) (drop at y)))
    → (at + r ≤ length y) × (eat x (drop (at + r) y) ≡ eat (p ++ x) (drop at y))
piece_eaten p x y at r k f =
    let g : (r ≤ length (drop at y)) × (eat p (drop at y) ≡ drop r (drop at y)) = rw (part_to_end y at) at f in (
      omega (arith, g.0, length-drop at y),
      sym (eat-append p x (drop at y) ∙ ap (eat x) (g.1 ∙ drop-drop r at y)),
    )
