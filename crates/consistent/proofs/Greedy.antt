-- Greedy matching and deletion. Assumes nothing.
use Prim.Native.Nat.{ℕ, suc, ◌+◌, ◌-◌, ◌*◌, ◌≤◌}
use mathlib.Core.Path.{◌≡◌, refl, sym, ap, ◌∙◌}
use mathlib.Core.Bool.{Bool, true, false, cond}
use mathlib.Core.List.{List, [], ◌∷◌, ◌++◌, append-nil}
use native.Mathlib.Nat.{sub-zero}
use native.Mathlib.Omega.{arith}
use borrow.Author.Tests.{eq-eqb, eqb-true}
use lib.Dec.{eqb}
use lib.ListN.{length, take, drop, length-append, take-append-drop}
use lib.Seq.{take_at, drop_at, take_all}
use Rattle.bits.specs.Bits.{cut, AllBits}
use Rattle.bits.proofs.Laws.{bits-drop}
use Rattle.rows.specs.Deletion.{comes_from}
use Rattle.rows.specs.Slice.{flat}
use Rattle.rows.proofs.Deletion.{Strikes, done, stays, struck, strikes, passes, strikes_length, strikes_none, comes-length}
use Rattle.rows.proofs.Slice.{flat-cut}
use Rattle.consistent.specs.Greedy.{eat, losses, table, in_all}

-- ---- against nothing, and one piece after another
pub eat-none : (x : List ℕ) → eat x [] ≡ []
unfolding eat
eat-none [] = refl
eat-none (b ∷ x) = refl

-- what a string leaves after another
pub eat-append : (a b y : List ℕ) → eat (a ++ b) y ≡ eat b (eat a y)
unfolding eat
eat-append [] b y = refl
eat-append (c ∷ a) b [] = sym (eat-none b)
eat-append (c ∷ a) b (d ∷ y) = go (eqb c d) (eat-append a b y) (eat-append a b (d ∷ y))
  where
    go : (t : Bool) → eat (a ++ b) y ≡ eat b (eat a y) → eat (a ++ b) (d ∷ y) ≡ eat b (eat a (d ∷ y))
        → cond t (eat (a ++ b) y) (eat (a ++ b) (d ∷ y)) ≡ eat b (cond t (eat a y) (eat a (d ∷ y)))
    go true p q = p
    go false p q = q

pub losses-append : (a b y : List ℕ) → losses (a ++ b) y ≡ losses a y + losses b (eat a y)
unfolding eat losses
losses-append [] b y = omega arith
losses-append (c ∷ a) b [] =
    let h : losses (a ++ b) [] ≡ losses a [] + losses b [] = rw (eat-none a) at (losses-append a b []) in omega arith
losses-append (c ∷ a) b (d ∷ y) = go (eqb c d) (losses-append a b y) (losses-append a b (d ∷ y))
  where
    go : (t : Bool) → losses (a ++ b) y ≡ losses a y + losses b (eat a y)
        → losses (a ++ b) (d ∷ y) ≡ losses a (d ∷ y) + losses b (eat a (d ∷ y))
        → cond t (losses (a ++ b) y) (suc (losses (a ++ b) (d ∷ y)))
        ≡ cond t (losses a y) (suc (losses a (d ∷ y))) + losses b (cond t (eat a y) (eat a (d ∷ y)))
    go true p q = p
    go false p q = omega arith

-- ---- lengths
-- the bits taken and those left are all of y's, the bits taken and those lost all of x's
pub length-eat : (x y : List ℕ) → length x + length (eat x y) ≡ losses x y + length y
unfolding eat losses
length-eat [] y = refl
length-eat (b ∷ x) [] = let h = length-eat x [] in let e = ap (length {A = ℕ}) (eat-none x) in omega arith
length-eat (b ∷ x) (c ∷ y) = go (eqb b c) (length-eat x y) (length-eat x (c ∷ y))
  where
    go : (t : Bool) → length x + length (eat x y) ≡ losses x y + length y
        → length x + length (eat x (c ∷ y)) ≡ losses x (c ∷ y) + suc (length y)
        → suc (length x) + length (cond t (eat x y) (eat x (c ∷ y)))
        ≡ cond t (losses x y) (suc (losses x (c ∷ y))) + suc (length y)
    go true p q = omega arith
    go false p q = omega arith

-- no more bits are lost than there are
pub losses-most : (x y : List ℕ) → losses x y ≤ length x
unfolding losses
losses-most [] y = omega arith
losses-most (b ∷ x) [] = let h = losses-most x [] in omega arith
losses-most (b ∷ x) (c ∷ y) = go (eqb b c) (losses-most x y) (losses-most x (c ∷ y))
  where
    go : (t : Bool) → losses x y ≤ length x → losses x (c ∷ y) ≤ length x
        → cond t (losses x y) (suc (losses x (c ∷ y))) ≤ suc (length x)
    go true p q = omega arith
    go false p q = omega arith

-- ---- the bits that x takes: they come from it by deleting those that took nothing, and what it leaves follows them
record Taken (x y : List ℕ) (lost : ℕ) (rest : List ℕ) : Type 0 where
  bits : List ℕ
  strikes : Strikes x lost bits
  splits : y ≡ bits ++ rest

taken : (x y : List ℕ) → Taken x y (losses x y) (eat x y)
unfolding eat losses
taken [] y = record { bits = []; strikes = done; splits = refl }
taken (b ∷ x) [] =
    let q = taken x [] in
    record { bits = q.bits; strikes = struck q.strikes; splits = rw (eat-none x) at q.splits }
taken (b ∷ x) (c ∷ y) = go (eqb b c) refl (taken x y) (taken x (c ∷ y))
  where
    go : (t : Bool) → eqb b c ≡ t → Taken x y (losses x y) (eat x y) → Taken x (c ∷ y) (losses x (c ∷ y)) (eat x (c ∷ y))
        → Taken (b ∷ x) (c ∷ y) (cond t (losses x y) (suc (losses x (c ∷ y)))) (cond t (eat x y) (eat x (c ∷ y)))
    go true e p q = record { bits = b ∷ p.bits; strikes = stays p.strikes; splits = cc (eqb-true b c e) }
    go false e p q = record { bits = q.bits; strikes = struck q.strikes; splits = q.splits }

-- ---- deletion and greedy matching agree
-- whatever leaves nothing of a string leaves nothing of its later bits
eat-less : (x y : List ℕ) (c : ℕ) → eat x (c ∷ y) ≡ [] → eat x y ≡ []
unfolding eat
eat-less [] y c h = absurd (omega (arith, ap (length {A = ℕ}) h))
eat-less (b ∷ x) [] c h = refl
eat-less (b ∷ x) (d ∷ y) c h = go (eqb b c) (eqb b d) h (eat-less x (d ∷ y) c) (eat-less x y d)
  where
    go : (t u : Bool) → cond t (eat x (d ∷ y)) (eat x (c ∷ (d ∷ y))) ≡ []
        → (eat x (c ∷ (d ∷ y)) ≡ [] → eat x (d ∷ y) ≡ [])
        → (eat x (d ∷ y) ≡ [] → eat x y ≡ []) → cond u (eat x y) (eat x (d ∷ y)) ≡ []
    go true true h f g = g h
    go true false h f g = h
    go false true h f g = g (f h)
    go false false h f g = f h

-- and a bit more in front changes nothing of that
eat_past : (b : ℕ) (x y : List ℕ) → eat x y ≡ [] → eat (b ∷ x) y ≡ []
unfolding eat
eat_past b x [] h = refl
eat_past b x (c ∷ y) h = go (eqb b c)
  where
    go : (t : Bool) → cond t (eat x y) (eat x (c ∷ y)) ≡ []
    go true = eat-less x y c h
    go false = h

strikes_eat : {x : List ℕ} {k : ℕ} {y : List ℕ} → Strikes x k y → eat x y ≡ []
unfolding eat
strikes_eat done = refl
strikes_eat (stays {b} {k} {x} {y} s) = rw (eq-eqb b b refl) (strikes_eat s)
strikes_eat (struck {b} {k} {x} {y} s) = eat_past b x y (strikes_eat s)

-- where y comes from x by deleting bits, x takes all of it
pub comes-eat : (x : List ℕ) (k : ℕ) (y : List ℕ) → comes_from x k y ≡ true → eat x y ≡ []
comes-eat x k y h = strikes_eat (strikes x k y h)

-- and loses as many bits as were deleted
pub comes-losses : (x : List ℕ) (k : ℕ) (y : List ℕ) → comes_from x k y ≡ true → losses x y ≡ k
comes-losses x k y h = omega (arith, ap (length {A = ℕ}) (comes-eat x k y h), length-eat x y, comes-length x k y h)

-- where x takes all of y, y comes from it by deleting the bits that took nothing
pub eat-comes : (x y : List ℕ) → eat x y ≡ [] → comes_from x (length x - length y) y ≡ true
eat-comes x y h =
    let t = taken x y in
    let k : losses x y ≡ length x - length y = omega (arith, length-eat x y, ap (length {A = ℕ}) h) in
    let e : t.bits ≡ y = sym (t.splits ∙ rw h (append-nil t.bits)) in
    rw (← k) (rw e at (passes t.strikes))

-- ---- a piece of w bits with a losses: "the next w − a bits" of the received row are what it took
pub record Piece (w a : ℕ) (p y : List ℕ) : Type 0 where
  pub within : w - a ≤ length y
  pub comes : comes_from p a (take (w - a) y) ≡ true
  pub rest : eat p y ≡ drop (w - a) y

pub piece : (w a : ℕ) (p y : List ℕ) → length p ≡ w → losses p y ≡ a → Piece w a p y
piece w a p y n l =
    let t = taken p y in
    let k : length t.bits ≡ w - a = omega (arith, strikes_length t.strikes) in
    let e : take (w - a) y ≡ t.bits = ap (take (w - a)) t.splits ∙ take_at t.bits (eat p y) (w - a) k in
    let d : drop (w - a) y ≡ eat p y = ap (drop (w - a)) t.splits ∙ drop_at t.bits (eat p y) (w - a) k in
    record {
      within = omega (arith, ap (length {A = ℕ}) t.splits, length-append t.bits (eat p y));
      comes = rw (e, ← l) (passes t.strikes);
      rest = sym d;
    }

-- what is left of bits is bits
pub bits-eat : (p y : List ℕ) → AllBits y → AllBits (eat p y)
bits-eat p y a = rw (piece (length p) (losses p y) p y refl refl).rest (bits-drop (length p - losses p y) y a)

-- a piece without a loss is the next bits of the received row
pub whole : (p y : List ℕ) → losses p y ≡ 0 → p ≡ take (length p) y
whole p y l =
    strikes_none p (take (length p) y)
    (strikes p 0 (take (length p) y) (rw sub-zero at (piece (length p) 0 p y refl l).comes))

whole-first : (p r : List ℕ) → losses p (p ++ r) ≡ 0
unfolding losses
whole-first [] r = refl
whole-first (b ∷ p) r = rw (eq-eqb b b refl) (whole-first p r)

-- and the next bits of the received row have no loss
pub reads_whole : (p y : List ℕ) → p ≡ take (length p) y → losses p y ≡ 0
reads_whole p y e =
    let s : y ≡ p ++ drop (length p) y =
    sym (ap (λ (l : List ℕ). l ++ drop (length p) y) e ∙ take-append-drop (length p) y) in
    ap (losses p) s ∙ whole-first p (drop (length p) y)

-- ---- the pieces of a row
pub table-total : (ps : List (List ℕ)) (y : List ℕ) → in_all (table ps y) ≡ losses (flat ps) y
unfolding in_all table flat losses
table-total [] y = refl
table-total (p ∷ ps) y = ap (λ (n : ℕ). losses p y + n) (table-total ps (eat p y)) ∙ sym (losses-append p (flat ps) y)

-- the losses of a row's pieces add up to the bits deleted
pub table-cut : (n w k : ℕ) (x y : List ℕ) → length x ≡ n * w → comes_from x k y ≡ true → in_all (table (cut n w x) y) ≡ k
table-cut n w k x y e h =
    table-total (cut n w x) y ∙ ap (λ (t : List ℕ). losses t y) (flat-cut w n x ∙ take_all (n * w) x (omega arith))
    ∙ comes-losses x k y h
