-- What the list slice holds after a row was added: each way that the code takes writes what `add` says. Assumes nothing.
use Prim.Native.Nat.{Ordering}
use Prim.Native.Nat.{ℕ, suc, ◌+◌, ◌*◌, ◌-◌, ◌<◌, ◌≤◌}
use mathlib.Core.Path.{◌≡◌, refl, sym, ap, ◌∙◌}
use mathlib.Core.Bool.{Bool, true, false, ◌||◌}
use mathlib.Core.List.{List, [], ◌∷◌, ◌++◌, append_assoc}
use native.Mathlib.Nat.{suc-mul, add-mul}
use native.Mathlib.Numerals.{add-one}
use native.Mathlib.Omega.{arith}
use borrow.Author.Tests.{lt-ltb, le-ltb}
use lib.Dec.{ltb}
use lib.ListN.{length, take, drop, get_or, length-append, length-take, length-drop, take-append-drop}
use lib.Seq.{take_all, take_at, take-append-add, length-take-le}
use Rattle.std.specs.declared.cmp.Ordering.{Ordering as Answer}
use Rattle.std.specs.Bool.{◌==◌}
use Rattle.std.specs.Ordering.{ordering_index}
use Rattle.bits.specs.Bits.{cut}
use Rattle.rows.specs.Held.{Held, insert, union, add}
use Rattle.rows.specs.Order.{order, Ascending}
use Rattle.rows.specs.Slice.{flat, held_in, Written, place}
use Rattle.rows.proofs.Held.{or_true, or_false}
use Rattle.rows.proofs.Order.{answered}
use Rattle.rows.proofs.Slice.{place-length, insert-there, insert-place, length_cut, cut-take, cut-drop, flat-cut, flat_append, OrderAt, order-at, answered_same, answered_not_same}

-- the row at the place p of x, if there is one, is not x
abbrev pub Absent : (s : List ℕ) (c : ℕ) (x : List ℕ) (p : ℕ) → Type 0
Absent s c x p = p < c → order (get_or (cut c (length x) s) p []) x ≡ Ordering.eq → ⊥

module _ (s : List ℕ) (c : ℕ) (x : List ℕ) (p : ℕ) (r : Answer) (low : p < c) (e : r ≡ answered (OrderAt s p x)) where
  pub present : true ≡ (ordering_index r == 1) → order (get_or (cut c (length x) s) p []) x ≡ Ordering.eq
  present one = order-at s c x p low ∙ answered_same (OrderAt s p x) r e one

  pub absent_other : false ≡ (ordering_index r == 1) → Absent s c x p
  absent_other n h q = answered_not_same (OrderAt s p x) r e n (sym (order-at s c x p low) ∙ q)

pub absent_end : (s : List ℕ) (c : ℕ) (x : List ℕ) (p : ℕ) → c ≤ p → Absent s c x p
absent_end s c x p h l = absurd (omega arith)

-- the bytes that the row and the rows around it take, where the first t rows stay
put-flat : (w c p t : ℕ) (s x : List ℕ) → p ≤ t → t ≤ c
    → take (p * w) s ++ (x ++ (take (t * w - p * w) (drop (p * w) s) ++ drop (t * w + w) s))
    ≡ flat (take p (cut c w s) ++ (x ∷ take (t - p) (drop p (cut c w s)))) ++ drop ((t + 1) * w) s
unfolding flat
put-flat w c p t s x h k =
    let d : t * w - p * w ≡ (t - p) * w = sub-rows t p w h in
    let n : t * w + w ≡ (t + 1) * w = rw (add-one t) (sym (suc-mul t w)) in
    let a : flat (take p (cut c w s)) ≡ take (p * w) s = ap flat (cut-take w p c s (omega arith)) ∙ flat-cut w p s in
    let b : flat (take (t - p) (drop p (cut c w s))) ≡ take ((t - p) * w) (drop (p * w) s) =
    ap (λ (l : List (List ℕ)). flat (take (t - p) l)) (cut-drop w p c s (omega arith))
    ∙ ap flat (cut-take w (t - p) (c - p) (drop (p * w) s) (omega arith))
    ∙ flat-cut w (t - p) (drop (p * w) s)
    in
    rw (d, n, flat_append, a, b, append_assoc, append_assoc) refl
  where
    sub-rows : (t p w : ℕ) → p ≤ t → t * w - p * w ≡ (t - p) * w
    sub-rows t p w h =
        let e : t - p + p ≡ t = omega arith in
        omega (arith, ap (λ (v : ℕ). v * w) e, add-mul (t - p) p w)

module _ (s : List ℕ) (c : ℕ) (m : Bool) (cap : ℕ) (x : List ℕ) (fewer : c ≤ cap) (p : ℕ)
    (at : p ≡ place x (cut c (length x) s)) where
  abbrev Now : List (List ℕ)
  Now = cut c (length x) s

  abbrev Next : Held
  Next = add cap (held_in (length x) s c m) (x ∷ [])

  count-now : length Now ≡ c
  count-now = length_cut (length x) c s

  pub place_in : p ≤ c
  place_in = let l = place-length x Now in omega (arith, count-now)

  written : (q : List (List ℕ)) (exit : List ℕ) (d : ℕ) (o : Bool) → take cap (insert x Now) ≡ q
      → o ≡ m || ltb cap (length (insert x Now)) → exit ≡ flat q ++ drop (d * length x) s → d ≡ length q
      → Written (length x) Next s exit d o
  unfolding add union
  written q exit d o rows noted slice many =
      record {
        slice = slice ∙ ap (λ (l : List (List ℕ)). flat l ++ drop (d * length x) s) (sym rows);
        count = many ∙ ap length (sym rows);
        more = noted;
      }

  -- the slice holds what it held
  as_it_was : s ≡ flat Now ++ drop (c * length x) s
  as_it_was =
      sym (ap (λ (l : List ℕ). l ++ drop (c * length x) s) (flat-cut (length x) c s) ∙ take-append-drop (c * length x) s)

  -- the row is held already
  pub written_repeat : Ascending Now → p < c → order (get_or Now p []) x ≡ Ordering.eq → Written (length x) Next s s c m
  written_repeat asc h e =
      let same : insert x Now ≡ Now =
      insert-there x Now asc (omega (arith, count-now)) (ap (λ (k : ℕ). order (get_or Now k []) x) (sym at) ∙ e) in
      let few : ltb cap (length (insert x Now)) ≡ false =
      ap (λ (l : List (List ℕ)). ltb cap (length l)) same ∙ le-ltb cap (length Now) (omega (arith, count-now)) in
      written Now s c m (ap (take cap) same ∙ take_all cap Now (omega (arith, count-now)))
      (sym (or_false m) ∙ ap (λ (t : Bool). m || t) (sym few)) as_it_was (sym count-now)

  module _ (new : Absent s c x p) where
    put : insert x Now ≡ take p Now ++ (x ∷ drop p Now)
    put =
        rw at (insert-place x Now
        (λ h e. new (omega (arith, count-now)) (ap (λ (k : ℕ). order (get_or Now k []) x) at ∙ e)))

    length-put : length (insert x Now) ≡ suc c
    length-put =
        ap length put ∙ simp (length-append, length-take, length-drop) (omega (arith, count-now, place_in))

    head-length : length (take p Now) ≡ p
    head-length = length-take-le p Now (omega (arith, count-now, place_in))

    -- there is room: the rows from its place on move up
    pub written-room : (exit : List ℕ) → c < cap
        → exit ≡ take (p * length x) s
        ++ (x ++ (take (c * length x - p * length x) (drop (p * length x) s) ++ drop (c * length x + length x) s))
        → Written (length x) Next s exit (c + 1) m
    written-room exit h e =
        let rest : take (c - p) (drop p Now) ≡ drop p Now =
        take_all (c - p) (drop p Now) (simp length-drop (omega (arith, count-now))) in
        let q : List (List ℕ) = take p Now ++ (x ∷ take (c - p) (drop p Now)) in
        let is : insert x Now ≡ q = put ∙ ap (λ (l : List (List ℕ)). take p Now ++ (x ∷ l)) (sym rest) in
        let few : ltb cap (length (insert x Now)) ≡ false =
        le-ltb cap (length (insert x Now)) (omega (arith, length-put)) in
        written q exit (c + 1) m
        (take_all cap (insert x Now) (omega (arith, length-put)) ∙ is)
        (sym (or_false m) ∙ ap (λ (t : Bool). m || t) (sym few))
        (e ∙ put-flat (length x) c p c s x place_in (omega arith))
        (omega (arith, length-put, ap length is))

    over : cap ≤ c → true ≡ m || ltb cap (length (insert x Now))
    over h = sym (ap (λ (t : Bool). m || t) (lt-ltb cap (length (insert x Now)) (omega (arith, length-put))) ∙ or_true m)

    -- the list is full, and the row goes before its last: that one is pushed out
    pub written-full : (exit : List ℕ) → cap ≤ c → p < cap
        → exit ≡ take (p * length x) s
        ++ (x ++ (take ((cap - 1) * length x - p * length x) (drop (p * length x) s)
        ++ drop ((cap - 1) * length x + length x) s))
        → Written (length x) Next s exit c true
    written-full exit h l e =
        let t : ℕ = cap - 1 in
        let q : List (List ℕ) = take p Now ++ (x ∷ take (t - p) (drop p Now)) in
        let k : cap ≡ length (take p Now) + suc (t - p) = omega (arith, head-length) in
        let rows : take cap (insert x Now) ≡ q =
        ap (take cap) put
        ∙ ap (λ (n : ℕ). take n (take p Now ++ (x ∷ drop p Now))) k
        ∙ take-append-add (take p Now) (x ∷ drop p Now) (suc (t - p))
        in
        let many : c ≡ length q =
        sym (sym (ap length rows) ∙ length-take-le cap (insert x Now) (omega (arith, length-put)) ∙ omega arith) in
        let d : t + 1 ≡ c = omega arith in
        written q exit c true rows (over h)
        (e ∙ put-flat (length x) c p t s x (omega arith) (omega arith)
        ∙ ap (λ (n : ℕ). flat q ++ drop (n * length x) s) d)
        many

    -- the list is full, and the row comes after its last: only that there are more is noted
    pub written_after : cap ≤ c → cap ≤ p → Written (length x) Next s s c true
    written_after h l =
        let rows : take cap (insert x Now) ≡ Now =
        ap (take cap) put
        ∙ take_at (take p Now) (x ∷ drop p Now) cap (omega (arith, head-length, place_in))
        ∙ take_all p Now (omega (arith, count-now))
        in
        written Now s c true rows (over h) as_it_was (sym count-now)
