-- Dictionary order: its laws; two ascending lists with the same members are the same list; the list of all rows is
-- ascending and holds exactly the rows of n bits; what `keep` keeps. Assumes nothing.
use Prim.Native.Nat.{ℕ, zero, suc, ◌<◌, compare, Ordering}
use mathlib.Core.Path.{◌≡◌, refl, sym, ap, ◌∙◌, subst}
use mathlib.Core.Bool.{Bool, true, false, cond}
use mathlib.Core.Logic.{◌⊎◌, inl, inr, ⊎_elim}
use mathlib.Core.List.{List, [], ◌∷◌, ◌++◌, map}
use native.Mathlib.Omega.{arith}
use borrow.Author.Tests.{leb-true, leb-false, eqb-true, eqb-false}
use lib.Dec.{is_le, compare_is_eq}
use Rattle.std.specs.Cmp.{nat_cmp_is}
use Rattle.std.specs.Cmp.Lexicographic.{slice_cmp}
use Rattle.std.specs.Ordering.{nat_cmp, ordering_then}
use Rattle.std.specs.declared.cmp.Ordering.{Ordering as Answer}
use Rattle.std.specs.declared.cmp.Ordering.TheVariants.{Less as before, Equal as same, Greater as after}
use Rattle.rows.specs.Order.{Less, by_order, order, Mem, Before, After, Ascending, Row}
use Rattle.rows.specs.Rows.{all_rows, keep}

-- ---- the order
pub less_irrefl : (x : List ℕ) → Less x x → ⊥
less_irrefl [] h = h
less_irrefl (a ∷ x) (inl h) = omega arith
less_irrefl (a ∷ x) (inr h) = less_irrefl x h.1

pub less_trans : (x y z : List ℕ) → Less x y → Less y z → Less x z
less_trans [] [] z p q = absurd p
less_trans [] (b ∷ y) [] p q = absurd q
less_trans [] (b ∷ y) (c ∷ z) p q = tt
less_trans (a ∷ x) [] z p q = absurd p
less_trans (a ∷ x) (b ∷ y) [] p q = absurd q
less_trans (a ∷ x) (b ∷ y) (c ∷ z) (inl p) (inl q) = inl (omega arith)
less_trans (a ∷ x) (b ∷ y) (c ∷ z) (inl p) (inr q) = inl (omega (arith, q.0))
less_trans (a ∷ x) (b ∷ y) (c ∷ z) (inr p) (inl q) = inl (omega (arith, p.0))
less_trans (a ∷ x) (b ∷ y) (c ∷ z) (inr p) (inr q) = inr (p.0 ∙ q.0, less_trans x y z p.1 q.1)

pub less_not : (x y : List ℕ) → Less x y → Less y x → ⊥
less_not x y p q = less_irrefl x (less_trans x y x p q)

-- what an answer on two numbers says of them
abbrev pub ComparedN : ℕ → ℕ → Ordering → Type 0
ComparedN a b Ordering.lt = a < b
ComparedN a b Ordering.eq = a ≡ b
ComparedN a b Ordering.gt = b < a

pub compared_n : (a b : ℕ) → ComparedN a b (compare a b)
compared_n a b = go (compare a b) refl
  where
    go : (o : Ordering) → compare a b ≡ o → ComparedN a b o
    go Ordering.lt e =
        let l = leb-true a b (ap is_le e) in
        let n = eqb-false a b (ap compare_is_eq e) in
        omega (arith, n)
    go Ordering.eq e = eqb-true a b (ap compare_is_eq e)
    go Ordering.gt e = leb-false a b (ap is_le e)

-- the answer on two numbers, from what holds of them
pub answer_n : (a b : ℕ) (o : Ordering) → ComparedN a b o → compare a b ≡ o
answer_n a b o h = go (compare a b) o (compared_n a b) h
  where
    go : (p q : Ordering) → ComparedN a b p → ComparedN a b q → p ≡ q
    go Ordering.lt Ordering.lt u v = refl
    go Ordering.lt Ordering.eq u v = absurd (omega arith)
    go Ordering.lt Ordering.gt u v = absurd (omega arith)
    go Ordering.eq Ordering.lt u v = absurd (omega arith)
    go Ordering.eq Ordering.eq u v = refl
    go Ordering.eq Ordering.gt u v = absurd (omega arith)
    go Ordering.gt Ordering.lt u v = absurd (omega arith)
    go Ordering.gt Ordering.eq u v = absurd (omega arith)
    go Ordering.gt Ordering.gt u v = refl

-- what an answer says of two rows
abbrev pub Compared : List ℕ → List ℕ → Ordering → Type 0
Compared x y Ordering.lt = Less x y
Compared x y Ordering.eq = x ≡ y
Compared x y Ordering.gt = Less y x

pub compared : (x y : List ℕ) → Compared x y (order x y)
unfolding order
compared [] [] = refl
compared [] (b ∷ y) = tt
compared (a ∷ x) [] = tt
compared (a ∷ x) (b ∷ y) = go (compare a b) (compared_n a b) (order x y) (compared x y)
  where
    go : (o : Ordering) → ComparedN a b o → (p : Ordering) → Compared x y p
        → Compared (a ∷ x) (b ∷ y) (by_order o Ordering.lt p Ordering.gt)
    go Ordering.lt h p r = inl h
    go Ordering.eq h Ordering.lt r = inr (h, r)
    go Ordering.eq h Ordering.eq r = cc
    go Ordering.eq h Ordering.gt r = inr (sym h, r)
    go Ordering.gt h p r = inl h

-- the answer, from what holds of the two rows
pub answer : (x y : List ℕ) (o : Ordering) → Compared x y o → order x y ≡ o
answer x y o h = go (order x y) o (compared x y) h
  where
    same_not : Less x y → x ≡ y → ⊥
    same_not l e = less_irrefl y (subst (λ (v : List ℕ). Less v y) e l)

    more-not : Less y x → x ≡ y → ⊥
    more-not l e = less_irrefl y (subst (λ (v : List ℕ). Less y v) e l)

    go : (p q : Ordering) → Compared x y p → Compared x y q → p ≡ q
    go Ordering.lt Ordering.lt u v = refl
    go Ordering.lt Ordering.eq u v = absurd (same_not u v)
    go Ordering.lt Ordering.gt u v = absurd (less_not x y u v)
    go Ordering.eq Ordering.lt u v = absurd (same_not v u)
    go Ordering.eq Ordering.eq u v = refl
    go Ordering.eq Ordering.gt u v = absurd (more-not v u)
    go Ordering.gt Ordering.lt u v = absurd (less_not x y v u)
    go Ordering.gt Ordering.eq u v = absurd (more-not u v)
    go Ordering.gt Ordering.gt u v = refl

-- the answer as std names it: it is that of comparing slices of bytes
abbrev pub answered : Ordering → Answer
answered o = by_order o before same after

pub slices_compared : (x y : List ℕ) → slice_cmp nat_cmp x y ≡ answered (order x y)
unfolding order
slices_compared [] [] = refl
slices_compared [] (b ∷ y) = refl
slices_compared (a ∷ x) [] = refl
slices_compared (a ∷ x) (b ∷ y) = go (compare a b) (compared_n a b) (slices_compared x y)
  where
    first : (r : Answer) → r ≡ nat_cmp a b
        → ordering_then (nat_cmp a b) (slice_cmp nat_cmp x y) ≡ ordering_then r (slice_cmp nat_cmp x y)
    first r e = ap (λ (o : Answer). ordering_then o (slice_cmp nat_cmp x y)) (sym e)

    go : (o : Ordering) → ComparedN a b o → slice_cmp nat_cmp x y ≡ answered (order x y)
        → ordering_then (nat_cmp a b) (slice_cmp nat_cmp x y) ≡ answered (by_order o Ordering.lt (order x y) Ordering.gt)
    go Ordering.lt h e = first before (nat_cmp_is a b before h)
    go Ordering.eq h e = first same (nat_cmp_is a b same h) ∙ e
    go Ordering.gt h e = first after (nat_cmp_is a b after h)

pub order-less : (x y : List ℕ) → order x y ≡ Ordering.lt → Less x y
order-less x y e = subst (λ (o : Ordering). Compared x y o) e (compared x y)

pub order_same : (x y : List ℕ) → order x y ≡ Ordering.eq → x ≡ y
order_same x y e = subst (λ (o : Ordering). Compared x y o) e (compared x y)

-- ---- members
pub mem_before : (x y : List ℕ) (ys : List (List ℕ)) → Before x ys → Mem y ys → Less x y
mem_before x y [] b m = absurd m
mem_before x y (z ∷ zs) b (inl e) = subst (λ (v : List ℕ). Less x v) (sym e) b.0
mem_before x y (z ∷ zs) b (inr m) = mem_before x y zs b.1 m

pub mem_after : (x y : List ℕ) (ys : List (List ℕ)) → After ys x → Mem y ys → Less y x
mem_after x y [] a m = absurd m
mem_after x y (z ∷ zs) a (inl e) = subst (λ (v : List ℕ). Less v x) (sym e) a.0
mem_after x y (z ∷ zs) a (inr m) = mem_after x y zs a.1 m

pub after_of : (x : List ℕ) (ys : List (List ℕ)) → ((y : List ℕ) → Mem y ys → Less y x) → After ys x
after_of x [] h = tt
after_of x (y ∷ ys) h = (h y (inl refl), after_of x ys (λ z m. h z (inr m)))

pub before_of : (x : List ℕ) (ys : List (List ℕ)) → ((y : List ℕ) → Mem y ys → Less x y) → Before x ys
before_of x [] h = tt
before_of x (y ∷ ys) h = (h y (inl refl), before_of x ys (λ z m. h z (inr m)))

pub mem_left : (z : List ℕ) (a b : List (List ℕ)) → Mem z a → Mem z (a ++ b)
mem_left z [] b m = absurd m
mem_left z (x ∷ xs) b (inl e) = inl e
mem_left z (x ∷ xs) b (inr m) = inr (mem_left z xs b m)

pub mem_right : (z : List ℕ) (a b : List (List ℕ)) → Mem z b → Mem z (a ++ b)
mem_right z [] b m = m
mem_right z (x ∷ xs) b m = inr (mem_right z xs b m)

pub mem_append : (z : List ℕ) (a b : List (List ℕ)) → Mem z (a ++ b) → Mem z a ⊎ Mem z b
mem_append z [] b m = inr m
mem_append z (x ∷ xs) b (inl e) = inl (inl e)
mem_append z (x ∷ xs) b (inr m) = ⊎_elim (λ p. inl (inr p)) (λ q. inr q) (mem_append z xs b m)

-- ---- two ascending lists with the same members are equal
head-same : (x y : List ℕ) (xs ys : List (List ℕ)) → Before x xs → Before y ys → Mem x (y ∷ ys) → Mem y (x ∷ xs) → x ≡ y
head-same x y xs ys bx by (inl e) n = e
head-same x y xs ys bx by (inr m) (inl e) = sym e
head-same x y xs ys bx by (inr m) (inr n) = absurd (less_not x y (mem_before x y xs bx n) (mem_before y x ys by m))

tail_mem : (x y z : List ℕ) (xs ys : List (List ℕ)) → x ≡ y → Before x xs → Mem z xs → Mem z (y ∷ ys) → Mem z ys
tail_mem x y z xs ys e bx m (inl p) =
    absurd (less_irrefl x (subst (λ (v : List ℕ). Less x v) (p ∙ sym e) (mem_before x z xs bx m)))
tail_mem x y z xs ys e bx m (inr n) = n

pub same_members : (xs ys : List (List ℕ)) → Ascending xs → Ascending ys → ((z : List ℕ) → Mem z xs → Mem z ys)
    → ((z : List ℕ) → Mem z ys → Mem z xs) → xs ≡ ys
same_members [] [] a b f g = refl
same_members [] (y ∷ ys) a b f g = absurd (g y (inl refl))
same_members (x ∷ xs) [] a b f g = absurd (f x (inl refl))
same_members (x ∷ xs) (y ∷ ys) a b f g =
    let e : x ≡ y = head-same x y xs ys a.0 b.0 (f x (inl refl)) (g y (inl refl)) in
    let t : xs ≡ ys =
    same_members xs ys a.1 b.1 (λ z m. tail_mem x y z xs ys e a.0 m (f z (inr m)))
    (λ z m. tail_mem y x z ys xs (sym e) b.0 m (g z (inr m))) in
    cc

-- ---- all rows
abbrev Cons : ℕ → List (List ℕ) → List (List ℕ)
Cons v xs = map (λ (x : List ℕ). v ∷ x) xs

mem_cons : (v : ℕ) (z : List ℕ) (a : List (List ℕ)) → Mem z a → Mem (v ∷ z) (Cons v a)
mem_cons v z [] m = absurd m
mem_cons v z (x ∷ xs) (inl e) = inl (ap (λ (l : List ℕ). v ∷ l) e)
mem_cons v z (x ∷ xs) (inr m) = inr (mem_cons v z xs m)

-- every row of n bits is among them
pub rows_complete : (n : ℕ) (x : List ℕ) → Row n x → Mem x (all_rows n)
unfolding all_rows
rows_complete zero [] r = inl refl
rows_complete zero (b ∷ x) r = absurd (omega (arith, r.0))
rows_complete (suc n) [] r = absurd (omega (arith, r.0))
rows_complete (suc n) (zero ∷ x) r =
    mem_left (0 ∷ x) (Cons 0 (all_rows n)) (Cons 1 (all_rows n))
    (mem_cons 0 x (all_rows n) (rows_complete n x (omega (arith, r.0), r.1.1)))
rows_complete (suc n) (suc zero ∷ x) r =
    mem_right (1 ∷ x) (Cons 0 (all_rows n)) (Cons 1 (all_rows n))
    (mem_cons 1 x (all_rows n) (rows_complete n x (omega (arith, r.0), r.1.1)))
rows_complete (suc n) (suc (suc b) ∷ x) r = absurd (omega (arith, r.1.0))

row_cons : (v n : ℕ) (z : List ℕ) (a : List (List ℕ)) → v < 2 → ((y : List ℕ) → Mem y a → Row n y) → Mem z (Cons v a)
    → Row (suc n) z
row_cons v n z [] h g m = absurd m
row_cons v n z (x ∷ xs) h g (inl e) =
    let r = g x (inl refl) in
    subst (λ (l : List ℕ). Row (suc n) l) (sym e) (ap suc r.0, (h, r.1))
row_cons v n z (x ∷ xs) h g (inr m) = row_cons v n z xs h (λ y p. g y (inr p)) m

-- and nothing else is
pub rows-sound : (n : ℕ) (z : List ℕ) → Mem z (all_rows n) → Row n z
unfolding all_rows
rows-sound zero z (inl e) = subst (λ (l : List ℕ). Row 0 l) (sym e) (refl, tt)
rows-sound zero z (inr m) = absurd m
rows-sound (suc n) z m =
    ⊎_elim
    (λ p. row_cons 0 n z (all_rows n) (omega arith) (rows-sound n) p)
    (λ p. row_cons 1 n z (all_rows n) (omega arith) (rows-sound n) p)
    (mem_append z (Cons 0 (all_rows n)) (Cons 1 (all_rows n)) m)

before-append : (x : List ℕ) (a b : List (List ℕ)) → Before x a → Before x b → Before x (a ++ b)
before-append x [] b p q = q
before-append x (y ∷ ys) b p q = (p.0, before-append x ys b p.1 q)

before_cons : (v : ℕ) (x : List ℕ) (a : List (List ℕ)) → Before x a → Before (v ∷ x) (Cons v a)
before_cons v x [] p = tt
before_cons v x (y ∷ ys) p = (inr (refl, p.0), before_cons v x ys p.1)

before-one : (x : List ℕ) (a : List (List ℕ)) → Before (0 ∷ x) (Cons 1 a)
before-one x [] = tt
before-one x (y ∷ ys) = (inl (omega arith), before-one x ys)

ascending_cons : (v : ℕ) (a : List (List ℕ)) → Ascending a → Ascending (Cons v a)
ascending_cons v [] p = tt
ascending_cons v (x ∷ xs) p = (before_cons v x xs p.0, ascending_cons v xs p.1)

ascending_two : (a b : List (List ℕ)) → Ascending a → Ascending b → Ascending (Cons 0 a ++ Cons 1 b)
ascending_two [] b p q = ascending_cons 1 b q
ascending_two (x ∷ xs) b p q = (
  before-append (0 ∷ x) (Cons 0 xs) (Cons 1 b) (before_cons 0 x xs p.0) (before-one x b),
  ascending_two xs b p.1 q,
)

pub rows-ascending : (n : ℕ) → Ascending (all_rows n)
unfolding all_rows
rows-ascending zero = (tt, tt)
rows-ascending (suc n) = ascending_two (all_rows n) (all_rows n) (rows-ascending n) (rows-ascending n)

-- ---- the rows kept
before-keep : (f : List ℕ → Bool) (x : List ℕ) (a : List (List ℕ)) → Before x a → Before x (keep f a)
unfolding keep
before-keep f x [] p = tt
before-keep f x (y ∷ ys) p = go (f y) (before-keep f x ys p.1)
  where
    go : (t : Bool) → Before x (keep f ys) → Before x (cond t (y ∷ keep f ys) (keep f ys))
    go true r = (p.0, r)
    go false r = r

pub keep-ascending : (f : List ℕ → Bool) (a : List (List ℕ)) → Ascending a → Ascending (keep f a)
unfolding keep
keep-ascending f [] p = tt
keep-ascending f (x ∷ xs) p = go (f x) (keep-ascending f xs p.1)
  where
    go : (t : Bool) → Ascending (keep f xs) → Ascending (cond t (x ∷ keep f xs) (keep f xs))
    go true r = (before-keep f x xs p.0, r)
    go false r = r

-- a row that is there and passes is kept
pub keep_complete : (f : List ℕ → Bool) (z : List ℕ) (a : List (List ℕ)) → Mem z a → f z ≡ true → Mem z (keep f a)
unfolding keep
keep_complete f z [] m h = absurd m
keep_complete f z (x ∷ xs) (inl e) h = rw (sym (ap f e) ∙ h) (inl e)
keep_complete f z (x ∷ xs) (inr m) h = go (f x) (keep_complete f z xs m h)
  where
    go : (t : Bool) → Mem z (keep f xs) → Mem z (cond t (x ∷ keep f xs) (keep f xs))
    go true r = inr r
    go false r = r

-- a row that is kept was there and passes
pub keep-sound : (f : List ℕ → Bool) (z : List ℕ) (a : List (List ℕ)) → Mem z (keep f a) → Mem z a × (f z ≡ true)
unfolding keep
keep-sound f z [] m = absurd m
keep-sound f z (x ∷ xs) m = go (f x) refl m (keep-sound f z xs)
  where
    go : (t : Bool) → f x ≡ t → Mem z (cond t (x ∷ keep f xs) (keep f xs)) → (Mem z (keep f xs) → Mem z xs × (f z ≡ true))
        → Mem z (x ∷ xs) × (f z ≡ true)
    go true e (inl p) r = (inl p, ap f p ∙ e)
    go true e (inr q) r = (inr (r q).0, (r q).1)
    go false e q r = (inr (r q).0, (r q).1)

-- what a kept row of all rows is
pub kept_row : (n : ℕ) (f : List ℕ → Bool) (z : List ℕ) → Mem z (keep f (all_rows n)) → Row n z × (f z ≡ true)
kept_row n f z m = let k = keep-sound f z (all_rows n) m in (rows-sound n z k.0, k.1)

-- and every such row is kept
pub row_kept : (n : ℕ) (f : List ℕ → Bool) (z : List ℕ) → Row n z → f z ≡ true → Mem z (keep f (all_rows n))
row_kept n f z r h = keep_complete f z (all_rows n) (rows_complete n z r) h
