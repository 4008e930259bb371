-- The bounded ordered list: rows can be added in any order and in any parts, on a list that is already cut too. Assumes
-- nothing.
use Prim.Native.Nat.{ℕ, zero, suc, ◌<◌, ◌≤◌, Ordering}
use mathlib.Core.Path.{◌≡◌, refl, sym, ap, ◌∙◌, subst}
use mathlib.Core.Bool.{Bool, true, false, ◌||◌, false≢true}
use mathlib.Core.Logic.{◌⊎◌, inl, inr, ⊎_elim}
use mathlib.Core.List.{List, [], ◌∷◌, ◌++◌}
use native.Mathlib.Omega.{arith}
use borrow.Author.Tests.{ltb-true, ltb-false, lt-ltb, le-ltb}
use lib.Dec.{ltb}
use lib.ListN.{length, take, length-take}
use lib.Seq.{take_all, take_at, take-take}
use Rattle.rows.specs.Held.{Held, none, insert, union, add, WellHeld, Known}
use Rattle.rows.specs.Order.{Less, by_order, order, Mem, Before, After, Ascending, Row}
use Rattle.rows.specs.Rows.{all_rows, keep}
use Rattle.rows.proofs.Order.{less_trans, Compared, compared, answer, mem_before, mem_left, mem_right, mem_append, same_members, rows-ascending, keep-ascending, keep_complete, keep-sound}

-- ---- one row put in
pub insert_mem : (z x : List ℕ) (ys : List (List ℕ)) → Mem z (x ∷ ys) → Mem z (insert x ys)
unfolding insert
insert_mem z x [] m = m
insert_mem z x (y ∷ ys) m = go (order x y) (compared x y) m (insert_mem z x ys)
  where
    go : (o : Ordering) → Compared x y o → Mem z (x ∷ (y ∷ ys)) → (Mem z (x ∷ ys) → Mem z (insert x ys))
        → Mem z (by_order o (x ∷ (y ∷ ys)) (y ∷ ys) (y ∷ insert x ys))
    go Ordering.lt k m r = m
    go Ordering.eq k (inl e) r = inl (e ∙ k)
    go Ordering.eq k (inr q) r = q
    go Ordering.gt k (inl e) r = inr (r (inl e))
    go Ordering.gt k (inr (inl e)) r = inl e
    go Ordering.gt k (inr (inr q)) r = inr (r (inr q))

pub insert-only : (z x : List ℕ) (ys : List (List ℕ)) → Mem z (insert x ys) → Mem z (x ∷ ys)
unfolding insert
insert-only z x [] m = m
insert-only z x (y ∷ ys) m = go (order x y) m (insert-only z x ys)
  where
    go : (o : Ordering) → Mem z (by_order o (x ∷ (y ∷ ys)) (y ∷ ys) (y ∷ insert x ys))
        → (Mem z (insert x ys) → Mem z (x ∷ ys)) → Mem z (x ∷ (y ∷ ys))
    go Ordering.lt m r = m
    go Ordering.eq m r = inr m
    go Ordering.gt (inl e) r = inr (inl e)
    go Ordering.gt (inr q) r = ⊎_elim (λ p. inl p) (λ p. inr (inr p)) (r q)

before-insert : (a x : List ℕ) (ys : List (List ℕ)) → Less a x → Before a ys → Before a (insert x ys)
unfolding insert
before-insert a x [] h p = (h, tt)
before-insert a x (y ∷ ys) h p = go (order x y) (before-insert a x ys h p.1)
  where
    go : (o : Ordering) → Before a (insert x ys) → Before a (by_order o (x ∷ (y ∷ ys)) (y ∷ ys) (y ∷ insert x ys))
    go Ordering.lt r = (h, p)
    go Ordering.eq r = p
    go Ordering.gt r = (p.0, r)

before-less : (x y : List ℕ) (ys : List (List ℕ)) → Less x y → Before y ys → Before x ys
before-less x y [] h p = tt
before-less x y (z ∷ zs) h p = (less_trans x y z h p.0, before-less x y zs h p.1)

pub insert-ascending : (x : List ℕ) (ys : List (List ℕ)) → Ascending ys → Ascending (insert x ys)
unfolding insert
insert-ascending x [] p = (tt, tt)
insert-ascending x (y ∷ ys) p = go (order x y) (compared x y) (insert-ascending x ys p.1)
  where
    go : (o : Ordering) → Compared x y o → Ascending (insert x ys)
        → Ascending (by_order o (x ∷ (y ∷ ys)) (y ∷ ys) (y ∷ insert x ys))
    go Ordering.lt k r = ((k, before-less x y ys k p.0), p)
    go Ordering.eq k r = p
    go Ordering.gt k r = (before-insert y x ys k p.0, r)

pub insert-length : (x : List ℕ) (ys : List (List ℕ)) → length ys ≤ length (insert x ys)
unfolding insert
insert-length x [] = omega arith
insert-length x (y ∷ ys) = go (order x y) (insert-length x ys)
  where
    go : (o : Ordering) → length ys ≤ length (insert x ys)
        → suc (length ys) ≤ length (by_order o (x ∷ (y ∷ ys)) (y ∷ ys) (y ∷ insert x ys))
    go Ordering.lt r = omega arith
    go Ordering.eq r = omega arith
    go Ordering.gt r = omega arith

take_less : (c : ℕ) (y : List ℕ) (ys : List (List ℕ)) → take c (y ∷ take c ys) ≡ take c (y ∷ ys)
take_less zero y ys = refl
take_less (suc c) y ys = ap (λ (l : List (List ℕ)). y ∷ l) (take-take c (suc c) ys (omega arith))

-- the first c rows are kept right by a list that holds only them
pub insert-take : (c : ℕ) (x : List ℕ) (ys : List (List ℕ)) → take c (insert x (take c ys)) ≡ take c (insert x ys)
unfolding insert
insert-take zero x ys = refl
insert-take (suc c) x [] = refl
insert-take (suc c) x (y ∷ ys) = go (order x y) (insert-take c x ys)
  where
    go : (o : Ordering) → take c (insert x (take c ys)) ≡ take c (insert x ys)
        → take (suc c) (by_order o (x ∷ (y ∷ take c ys)) (y ∷ take c ys) (y ∷ insert x (take c ys)))
        ≡ take (suc c) (by_order o (x ∷ (y ∷ ys)) (y ∷ ys) (y ∷ insert x ys))
    go Ordering.lt r = ap (λ (m : List (List ℕ)). x ∷ m) (take_less c y ys)
    go Ordering.eq r = ap (λ (m : List (List ℕ)). y ∷ m) (take-take c c ys (omega arith))
    go Ordering.gt r = ap (λ (m : List (List ℕ)). y ∷ m) r

-- a row that is there already
pub insert_held : (x : List ℕ) (ys : List (List ℕ)) → Ascending ys → Mem x ys → insert x ys ≡ ys
insert_held x ys a m =
    same_members (insert x ys) ys (insert-ascending x ys a) a
    (λ z p. ⊎_elim (λ e. subst (λ (v : List ℕ). Mem v ys) (sym e) m) (λ q. q) (insert-only z x ys p))
    (λ z p. insert_mem z x ys (inr p))

-- a row that comes after all
pub insert-last : (x : List ℕ) (ys : List (List ℕ)) → After ys x → insert x ys ≡ ys ++ (x ∷ [])
unfolding insert
insert-last x [] a = refl
insert-last x (y ∷ ys) a =
    rw (answer x y Ordering.gt a.0) (ap (λ (l : List (List ℕ)). y ∷ l) (insert-last x ys a.1))

-- ---- the ordered union
pub union_mem : (z : List ℕ) (ys xs : List (List ℕ)) → Mem z ys ⊎ Mem z xs → Mem z (union ys xs)
unfolding union
union_mem z ys [] (inl m) = m
union_mem z ys [] (inr m) = absurd m
union_mem z ys (x ∷ xs) (inl m) = union_mem z (insert x ys) xs (inl (insert_mem z x ys (inr m)))
union_mem z ys (x ∷ xs) (inr (inl e)) = union_mem z (insert x ys) xs (inl (insert_mem z x ys (inl e)))
union_mem z ys (x ∷ xs) (inr (inr m)) = union_mem z (insert x ys) xs (inr m)

pub union-only : (z : List ℕ) (ys xs : List (List ℕ)) → Mem z (union ys xs) → Mem z ys ⊎ Mem z xs
unfolding union
union-only z ys [] m = inl m
union-only z ys (x ∷ xs) m =
    ⊎_elim
    (λ p. ⊎_elim (λ e. inr (inl e)) (λ q. inl q) (insert-only z x ys p))
    (λ q. inr (inr q))
    (union-only z (insert x ys) xs m)

pub union-ascending : (ys xs : List (List ℕ)) → Ascending ys → Ascending (union ys xs)
unfolding union
union-ascending ys [] a = a
union-ascending ys (x ∷ xs) a = union-ascending (insert x ys) xs (insert-ascending x ys a)

pub union-length : (ys xs : List (List ℕ)) → length ys ≤ length (union ys xs)
unfolding union
union-length ys [] = omega arith
union-length ys (x ∷ xs) =
    let r = union-length (insert x ys) xs in
    let s = insert-length x ys in
    omega arith

pub union-union : (ys a b : List (List ℕ)) → union (union ys a) b ≡ union ys (a ++ b)
unfolding union
union-union ys [] b = refl
union-union ys (x ∷ xs) b = union-union (insert x ys) xs b

pub union-take : (c : ℕ) (ys xs : List (List ℕ)) → take c (union (take c ys) xs) ≡ take c (union ys xs)
unfolding union
union-take c ys [] = take-take c c ys (omega arith)
union-take c ys (x ∷ xs) =
    sym (union-take c (insert x (take c ys)) xs)
    ∙ ap (λ (l : List (List ℕ)). take c (union l xs)) (insert-take c x ys)
    ∙ union-take c (insert x ys) xs

-- only the members count
pub union-same : (ys a b : List (List ℕ)) → Ascending ys → ((z : List ℕ) → Mem z a → Mem z ys ⊎ Mem z b)
    → ((z : List ℕ) → Mem z b → Mem z ys ⊎ Mem z a) → union ys a ≡ union ys b
union-same ys a b asc f g =
    same_members (union ys a) (union ys b) (union-ascending ys a asc) (union-ascending ys b asc) (half a b f) (half b a g)
  where
    half : (c d : List (List ℕ)) → ((z : List ℕ) → Mem z c → Mem z ys ⊎ Mem z d) → (z : List ℕ) → Mem z (union ys c)
        → Mem z (union ys d)
    half c d k z m = union_mem z ys d (⊎_elim (λ p. inl p) (k z) (union-only z ys c m))

-- an ascending list is the union of its members
pub union-none : (xs : List (List ℕ)) → Ascending xs → union [] xs ≡ xs
union-none xs a =
    same_members (union [] xs) xs (union-ascending [] xs tt) a
    (λ z m. ⊎_elim (λ p. absurd p) (λ p. p) (union-only z [] xs m))
    (λ z m. union_mem z [] xs (inr m))

-- ---- a list cut at c
pub take_mem : (c : ℕ) (z : List ℕ) (ys : List (List ℕ)) → Mem z (take c ys) → Mem z ys
take_mem zero z ys m = absurd m
take_mem (suc c) z [] m = absurd m
take_mem (suc c) z (y ∷ ys) (inl e) = inl e
take_mem (suc c) z (y ∷ ys) (inr m) = inr (take_mem c z ys m)

before-take : (c : ℕ) (x : List ℕ) (ys : List (List ℕ)) → Before x ys → Before x (take c ys)
before-take zero x ys b = tt
before-take (suc c) x [] b = tt
before-take (suc c) x (y ∷ ys) b = (b.0, before-take c x ys b.1)

pub take-ascending : (c : ℕ) (ys : List (List ℕ)) → Ascending ys → Ascending (take c ys)
take-ascending zero ys a = tt
take-ascending (suc c) [] a = tt
take-ascending (suc c) (y ∷ ys) a = (before-take c y ys a.0, take-ascending c ys a.1)

-- a row of an ascending list stands before the cut, or after all that do
pub take_rest : (c : ℕ) (z : List ℕ) (ys : List (List ℕ)) → Ascending ys → Mem z ys
    → Mem z (take c ys) ⊎ (After (take c ys) z × (c < length ys))
take_rest c z [] a m = absurd m
take_rest zero z (y ∷ ys) a m = inr (tt, omega arith)
take_rest (suc c) z (y ∷ ys) a (inl e) = inl (inl e)
take_rest (suc c) z (y ∷ ys) a (inr m) =
    ⊎_elim
    (λ p. inl (inr p))
    (λ q. inr ((mem_before y z ys a.0 m, q.0), omega (arith, q.1)))
    (take_rest c z ys a.1 m)

-- ---- adding
-- what is held of a whole ordered list
abbrev Clip : ℕ → Bool → List (List ℕ) → Held
Clip cap m u = record { rows = take cap u; more = m || ltb cap (length u) }

held_path : (g h : Held) → g.rows ≡ h.rows → g.more ≡ h.more → g ≡ h
held_path g h p q = λ i. record { rows = p i; more = q i }

pub or_true : (b : Bool) → b || true ≡ true
or_true true = refl
or_true false = refl

pub or_false : (b : Bool) → b || false ≡ b
or_false true = refl
or_false false = refl

more-more : (cap : ℕ) (m : Bool) (u b : List (List ℕ))
    → (m || ltb cap (length u)) || ltb cap (length (union (take cap u) b)) ≡ m || ltb cap (length (union u b))
more-more cap m u b = go m (ltb cap (length u)) refl
  where
    go : (m t : Bool) → ltb cap (length u) ≡ t
        → (m || t) || ltb cap (length (union (take cap u) b)) ≡ m || ltb cap (length (union u b))
    go true t e = refl
    go false true e =
        let l = ltb-true cap (length u) e in
        sym (lt-ltb cap (length (union u b)) (omega (arith, union-length u b)))
    go false false e =
        ap (λ (v : List (List ℕ)). ltb cap (length (union v b))) (take_all cap u (ltb-false cap (length u) e))

-- adding one part after another is adding them together, whatever is held and cut
pub add-add : (cap : ℕ) (h : Held) (a b : List (List ℕ)) → add cap (add cap h a) b ≡ add cap h (a ++ b)
unfolding add
add-add cap h a b =
    let u = union h.rows a in
    held_path (Clip cap (h.more || ltb cap (length u)) (union (take cap u) b)) (Clip cap h.more (union u b))
    (union-take cap u b) (more-more cap h.more u b)
    ∙ ap (Clip cap h.more) (union-union h.rows a b)

-- of an ascending list added to nothing the first cap rows are held, and that there are more exactly when there are
pub add-all : (cap : ℕ) (xs : List (List ℕ)) → Ascending xs
    → add cap none xs ≡ record { rows = take cap xs; more = ltb cap (length xs) }
unfolding add
add-all cap xs a = ap (Clip cap false) (union-none xs a)

pub add_kept : (cap n : ℕ) (f : List ℕ → Bool)
    → add cap none (keep f (all_rows n))
    ≡ record { rows = take cap (keep f (all_rows n)); more = ltb cap (length (keep f (all_rows n))) }
add_kept cap n f = add-all cap (keep f (all_rows n)) (keep-ascending f (all_rows n) (rows-ascending n))

-- the rows held do not become fewer
pub add-length : (cap : ℕ) (h : Held) (a : List (List ℕ)) → length h.rows ≤ cap
    → length h.rows ≤ length (add cap h a).rows
unfolding add
add-length cap h a le = simp length-take (omega (arith, union-length h.rows a))

-- nothing found yet is well held
pub none-well : (cap n : ℕ) (f : List ℕ → Bool) → WellHeld cap n f none
none-well cap n f =
    record { each = λ x m. absurd m; ascending = tt; at_most = omega arith; full = λ e. absurd (false≢true e) }

-- only the members of what is added count, beside those held
pub add_members : (cap : ℕ) (h : Held) (a b : List (List ℕ)) → Ascending h.rows
    → ((z : List ℕ) → Mem z a → Mem z h.rows ⊎ Mem z b) → ((z : List ℕ) → Mem z b → Mem z h.rows ⊎ Mem z a)
    → add cap h a ≡ add cap h b
unfolding add
add_members cap h a b asc f g = ap (Clip cap h.more) (union-same h.rows a b asc f g)

-- what was added is known afterwards
pub known_added : (cap : ℕ) (h : Held) (a : List (List ℕ)) (x : List ℕ) → Ascending h.rows → Mem x h.rows ⊎ Mem x a
    → Known (add cap h a) x
unfolding add
known_added cap h a x asc m =
    let u = union h.rows a in
    ⊎_elim
    (λ p. inl p)
    (λ q. inr (ap (λ (t : Bool). h.more || t) (lt-ltb cap (length u) q.1) ∙ or_true h.more, q.0))
    (take_rest cap x u (union-ascending h.rows a asc) (union_mem x h.rows a m))

module _ {cap n : ℕ} {f : List ℕ → Bool} {h : Held} (w : WellHeld cap n f h) where
  -- adding nothing changes nothing
  pub add_none : add cap h [] ≡ h
  unfolding add union
  add_none =
      held_path (Clip cap h.more h.rows) h (take_all cap h.rows w.at_most)
      (ap (λ (t : Bool). h.more || t) (le-ltb cap (length h.rows) w.at_most) ∙ or_false h.more)

  one-held : (x : List ℕ) → Mem x h.rows → add cap h (x ∷ []) ≡ h
  unfolding add union
  one-held x m = ap (Clip cap h.more) (insert_held x h.rows w.ascending m) ∙ add_none

  one-after : (x : List ℕ) → h.more ≡ true → After h.rows x → add cap h (x ∷ []) ≡ h
  unfolding add union
  one-after x e a =
      held_path (Clip cap h.more (insert x h.rows)) h
      (ap (take cap) (insert-last x h.rows a) ∙ take_at h.rows (x ∷ []) cap (w.full e))
      (ap (λ (t : Bool). t || ltb cap (length (insert x h.rows))) e ∙ sym e)

  -- adding rows that are known changes nothing
  pub add-known : (a : List (List ℕ)) → ((x : List ℕ) → Mem x a → Known h x) → add cap h a ≡ h
  add-known [] k = add_none
  add-known (x ∷ xs) k =
      let one : add cap h (x ∷ []) ≡ h = ⊎_elim (one-held x) (λ q. one-after x q.0 q.1) (k x (inl refl)) in
      sym (add-add cap h (x ∷ []) xs) ∙ ap (λ (g : Held). add cap g xs) one ∙ add-known xs (λ z m. k z (inr m))

  -- what is known stays known
  pub known-stays : (a : List (List ℕ)) (x : List ℕ) → Known h x → Known (add cap h a) x
  known-stays a x k =
      let one : add cap h (x ∷ []) ≡ h =
      add-known (x ∷ []) (λ z m. ⊎_elim (λ e. subst (λ (v : List ℕ). Known h v) (sym e) k) (λ p. absurd p) m) in
      let both : add cap h (x ∷ a) ≡ add cap h a = sym (add-add cap h (x ∷ []) a) ∙ ap (λ (g : Held). add cap g a) one in
      subst (λ (g : Held). Known g x) both (known_added cap h (x ∷ a) x w.ascending (inr (inl refl)))

  -- the rows kept by an "or" are the rows kept by the one test and those kept by the other
  pub add_or : (f g : List ℕ → Bool) (xs : List (List ℕ))
      → add cap (add cap h (keep f xs)) (keep g xs) ≡ add cap h (keep (λ (x : List ℕ). f x || g x) xs)
  add_or f g xs =
      add-add cap h (keep f xs) (keep g xs)
      ∙ add_members cap h (keep f xs ++ keep g xs) (keep (λ (x : List ℕ). f x || g x) xs) w.ascending there back
    where
      there : (z : List ℕ) → Mem z (keep f xs ++ keep g xs)
          → Mem z h.rows ⊎ Mem z (keep (λ (x : List ℕ). f x || g x) xs)
      there z m =
          inr
          (⊎_elim
          (λ p. let k = keep-sound f z xs p in
          keep_complete (λ (x : List ℕ). f x || g x) z xs k.0 (ap (λ (t : Bool). t || g z) k.1))
          (λ p. let k = keep-sound g z xs p in
          keep_complete (λ (x : List ℕ). f x || g x) z xs k.0 (ap (λ (t : Bool). f z || t) k.1 ∙ or_true (f z)))
          (mem_append z (keep f xs) (keep g xs) m))

      one_of : (z : List ℕ) (t : Bool) → f z ≡ t → f z || g z ≡ true → Mem z xs → Mem z (keep f xs ++ keep g xs)
      one_of z true e q m = mem_left z (keep f xs) (keep g xs) (keep_complete f z xs m e)
      one_of z false e q m =
          mem_right z (keep f xs) (keep g xs) (keep_complete g z xs m (ap (λ (t : Bool). t || g z) (sym e) ∙ q))

      back : (z : List ℕ) → Mem z (keep (λ (x : List ℕ). f x || g x) xs)
          → Mem z h.rows ⊎ Mem z (keep f xs ++ keep g xs)
      back z m = let k = keep-sound (λ (x : List ℕ). f x || g x) z xs m in inr (one_of z (f z) refl k.1 k.0)

  -- adding rows of n bits that pass the test keeps the list well held
  pub add-well : (a : List (List ℕ)) → ((x : List ℕ) → Mem x a → Row n x × (f x ≡ true)) → WellHeld cap n f (add cap h a)
  unfolding add
  add-well a k =
      let u = union h.rows a in
      record {
        each = λ x m. ⊎_elim (w.each x) (k x) (union-only x h.rows a (take_mem cap x u m));
        ascending = take-ascending cap u (union-ascending h.rows a w.ascending);
        at_most = simp length-take (omega arith);
        full = cut-full h.more refl;
      }
    where
      cut-full : (t : Bool) → h.more ≡ t → t || ltb cap (length (union h.rows a)) ≡ true
          → length (take cap (union h.rows a)) ≡ cap
      cut-full true e q = simp length-take (omega (arith, w.full e, union-length h.rows a))
      cut-full false e q = simp length-take (omega (arith, ltb-true cap (length (union h.rows a)) q))

-- tests that agree on the rows keep the same
pub keep_same : (f g : List ℕ → Bool) (xs : List (List ℕ)) → ((x : List ℕ) → Mem x xs → f x ≡ g x) → keep f xs ≡ keep g xs
unfolding keep
keep_same f g [] e = refl
keep_same f g (x ∷ xs) e = rw (e x (inl refl), keep_same f g xs (λ z m. e z (inr m))) refl

-- what comes after the last row of an ascending list comes after all
pub after_last : (ys : List (List ℕ)) (y x : List ℕ) → Ascending (ys ++ (y ∷ [])) → Less y x → After (ys ++ (y ∷ [])) x
after_last [] y x a l = (l, tt)
after_last (z ∷ zs) y x a l = (
  less_trans z y x (mem_before z y (zs ++ (y ∷ [])) a.0 (mem_right y zs (y ∷ []) (inl refl))) l,
  after_last zs y x a.1 l,
)
