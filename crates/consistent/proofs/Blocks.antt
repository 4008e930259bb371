-- Two rows with the same block sums, each with at most one loss, are equal. Assumes nothing.
use Prim.Native.Nat.{ℕ, zero, suc, ◌+◌, ◌-◌, ◌*◌, ◌≤◌, min}
use mathlib.Core.Path.{◌≡◌, refl, sym, ap, ap₂, ◌∙◌}
use mathlib.Core.List.{List, [], ◌∷◌, ◌++◌, map}
use native.Mathlib.Nat.{zero-mul, suc-mul}
use native.Mathlib.Omega.{arith}
use lib.ListN.{length, take, drop, length-drop, length-take, take-append-drop}
use Rattle.bits.specs.Bits.{cut, AllBits}
use Rattle.bits.proofs.Laws.{bits-take, bits-drop}
use Rattle.vt.specs.Sum.{sum}
use Rattle.vt.proofs.Mending.{unique}
use Rattle.consistent.specs.Greedy.{eat, losses}
use Rattle.consistent.proofs.Greedy.{losses-append, piece, whole, bits-eat}
use Rattle.consistent.proofs.Rule.{block_not_one}

-- a whole block and a block with one loss have not the same sum
whole_or_one : (a b y : List ℕ) → AllBits b → AllBits y → length a ≡ length b → sum a ≡ sum b → losses a y ≡ 0
    → losses b y ≡ 1 → ⊥
whole_or_one a b y bb bt n s p q =
    let k = piece (length b) 0 a y n p in
    let e : sum (take (length b) y) ≡ sum b = rw (← n, ← whole a y p) s in
    block_not_one b y bb bt (omega (arith, k.within)) e q

-- two blocks with the same sum and at most one loss each, against the same bits, are equal
pub same_block : (a b y : List ℕ) → AllBits a → AllBits b → AllBits y → length a ≡ length b → sum a ≡ sum b
    → losses a y ≤ 1 → losses b y ≤ 1 → a ≡ b
same_block a b y ba bb bt n s p q = go (losses a y) (losses b y) refl refl p q
  where
    go : (i j : ℕ) → losses a y ≡ i → losses b y ≡ j → i ≤ 1 → j ≤ 1 → a ≡ b
    go zero zero e f p q = whole a y e ∙ ap (λ (w : ℕ). take w y) n ∙ sym (whole b y f)
    go zero (suc zero) e f p q = absurd (whole_or_one a b y bb bt n s e f)
    go (suc zero) zero e f p q = absurd (whole_or_one b a y ba bt (sym n) (sym s) f e)
    go (suc zero) (suc zero) e f p q =
        unique a b (take (length b - 1) y) ba bb s (piece (length b) 1 a y n e).comes
        (piece (length b) 1 b y refl f).comes
    go zero (suc (suc j)) e f p q = absurd (omega arith)
    go (suc zero) (suc (suc j)) e f p q = absurd (omega arith)
    go (suc (suc i)) j e f p q = absurd (omega arith)

-- the losses of a row are those of its first piece and those of the rest
losses-cut : (w : ℕ) (x y : List ℕ) → losses x y ≡ losses (take w x) y + losses (drop w x) (eat (take w x) y)
losses-cut w x y = ap (λ (t : List ℕ). losses t y) (sym (take-append-drop w x)) ∙ losses-append (take w x) (drop w x) y

-- two rows of n blocks of w bits with the same block sums, and at most one loss each, are equal
pub same_row : (n w : ℕ) (x z y : List ℕ) → AllBits x → AllBits z → AllBits y → length x ≡ n * w → length z ≡ n * w
    → map sum (cut n w x) ≡ map sum (cut n w z) → losses x y ≤ 1 → losses z y ≤ 1 → x ≡ z
unfolding cut
same_row zero w [] [] y bx bz by p q s i j = refl
same_row zero w [] (c ∷ z) y bx bz by p q s i j = absurd (omega (arith, q, zero-mul w))
same_row zero w (b ∷ x) z y bx bz by p q s i j = absurd (omega (arith, p, zero-mul w))
same_row (suc n) w x z y bx bz by p q s i j =
    let a : List ℕ = take w x in
    let b : List ℕ = take w z in
    let sums : sum a ∷ map sum (cut n w (drop w x)) ≡ sum b ∷ map sum (cut n w (drop w z)) = s in
    let ix : losses a y + losses (drop w x) (eat a y) ≤ 1 = omega (arith, losses-cut w x y) in
    let iz : losses b y + losses (drop w z) (eat b y) ≤ 1 = omega (arith, losses-cut w z y) in
    let first : a ≡ b =
    same_block a b y (bits-take w x bx) (bits-take w z bz) by
    (length-take w x ∙ ap (min w) (p ∙ sym q) ∙ sym (length-take w z)) (cc) (omega arith) (omega arith) in
    let nx : length (drop w x) ≡ n * w = simp length-drop (omega (arith, suc-mul n w)) in
    let nz : length (drop w z) ≡ n * w = simp length-drop (omega (arith, suc-mul n w)) in
    let jz : losses (drop w z) (eat a y) ≤ 1 = rw first (omega arith) in
    let rest =
    same_row n w (drop w x) (drop w z) (eat a y) (bits-drop w x bx) (bits-drop w z bz) (bits-eat a y by) nx nz (cc)
    (omega arith) jz in
    sym (take-append-drop w x) ∙ ap₂ (λ (u v : List ℕ). u ++ v) first rest ∙ take-append-drop w z
