-- Rows in a slice, and where a row goes. Assumes nothing.
use Prim.Native.Nat.{ℕ, zero, suc, ◌+◌, ◌*◌, ◌-◌, ◌<◌, ◌≤◌, Ordering}
use mathlib.Core.Path.{◌≡◌, refl, sym, ap, ◌∙◌, subst}
use mathlib.Core.Bool.{Bool, true, false, true≢false}
use mathlib.Core.Logic.{inl, inr}
use mathlib.Core.List.{List, [], ◌∷◌, ◌++◌, append_assoc}
use native.Mathlib.Nat.{suc-mul, zero-mul, mul-le-mul_right}
use native.Mathlib.Numerals.{add-one}
use native.Mathlib.Omega.{arith}
use lib.ListN.{length, take, drop, get_or, set, length-append, length-drop, take-append-drop, get_or-append}
use lib.Seq.{take_at, take-append-le, drop-append-le, drop_at, drop-drop, take-take, take-add, take-suc, drop-cons, get_or-take, set_at, append_snoc, length-take-le, drop-append-add}
use Rattle.std.specs.declared.cmp.Ordering.{Ordering as Answer}
use Rattle.std.specs.Bool.{◌==◌}
use Rattle.std.specs.Ordering.{ordering_index}
use Rattle.bits.specs.Bits.{cut}
use Rattle.rows.specs.Held.{Held, insert}
use Rattle.rows.specs.Order.{Less, by_order, order, Mem, Ascending}
use Rattle.rows.specs.Slice.{flat, held_in, Written, place}
use Rattle.rows.proofs.Held.{insert_held}
use Rattle.rows.proofs.Order.{answered, less_trans, Compared, compared, answer, order_same, mem_before}

-- ---- the place of a row among ordered rows
row_mem : (m : ℕ) (ys : List (List ℕ)) → m < length ys → Mem (get_or ys m []) ys
row_mem m [] h = absurd (omega arith)
row_mem zero (y ∷ ys) h = inl refl
row_mem (suc m) (y ∷ ys) h = inr (row_mem m ys (omega arith))

pub place-length : (x : List ℕ) (ys : List (List ℕ)) → place x ys ≤ length ys
unfolding place
place-length x [] = omega arith
place-length x (y ∷ ys) = go (order y x) (place-length x ys)
  where
    go : (o : Ordering) → place x ys ≤ length ys → by_order o (suc (place x ys)) 0 0 ≤ suc (length ys)
    go Ordering.lt r = omega arith
    go Ordering.eq r = omega arith
    go Ordering.gt r = omega arith

-- a row that comes before x stands below the place of x
pub place-above : (x : List ℕ) (m : ℕ) (ys : List (List ℕ)) → Ascending ys → m < length ys
    → order (get_or ys m []) x ≡ Ordering.lt → m < place x ys
unfolding place
place-above x m [] a h l = absurd (omega arith)
place-above x zero (y ∷ ys) a h l = rw l (omega arith)
place-above x (suc m) (y ∷ ys) a h l =
    let first : Less y x =
    less_trans y (get_or ys m []) x (mem_before y (get_or ys m []) ys a.0 (row_mem m ys (omega arith)))
    (subst (λ (o : Ordering). Compared (get_or ys m []) x o) l (compared (get_or ys m []) x)) in
    let r = place-above x m ys a.1 (omega arith) l in
    rw (answer y x Ordering.lt first) (omega arith)

-- a row that does not come before x stands at its place or above
pub place-below : (x : List ℕ) (m : ℕ) (ys : List (List ℕ)) → m < length ys → (order (get_or ys m []) x ≡ Ordering.lt → ⊥)
    → place x ys ≤ m
unfolding place
place-below x m [] h n = absurd (omega arith)
place-below x zero (y ∷ ys) h n = go (order y x) refl
  where
    go : (o : Ordering) → order y x ≡ o → by_order o (suc (place x ys)) 0 0 ≤ 0
    go Ordering.lt e = absurd (n e)
    go Ordering.eq e = omega arith
    go Ordering.gt e = omega arith
place-below x (suc m) (y ∷ ys) h n = go (order y x) (place-below x m ys (omega arith) n)
  where
    go : (o : Ordering) → place x ys ≤ m → by_order o (suc (place x ys)) 0 0 ≤ suc m
    go Ordering.lt r = omega arith
    go Ordering.eq r = omega arith
    go Ordering.gt r = omega arith

-- the row at the place of x is x: nothing changes
pub insert-there : (x : List ℕ) (ys : List (List ℕ)) → Ascending ys → place x ys < length ys
    → order (get_or ys (place x ys) []) x ≡ Ordering.eq → insert x ys ≡ ys
insert-there x ys a h e =
    let p : ℕ = place x ys in
    insert_held x ys a (subst (λ (v : List ℕ). Mem v ys) (order_same (get_or ys p []) x e) (row_mem p ys h))

-- the row at the place of x is another, or there is none: x goes there
pub insert-place : (x : List ℕ) (ys : List (List ℕ))
    → (place x ys < length ys → order (get_or ys (place x ys) []) x ≡ Ordering.eq → ⊥)
    → insert x ys ≡ take (place x ys) ys ++ (x ∷ drop (place x ys) ys)
unfolding place insert
insert-place x [] n = refl
insert-place x (y ∷ ys) n = go (order y x) refl (compared y x) n (insert-place x ys)
  where
    go : (o : Ordering) → order y x ≡ o → Compared y x o
        → (by_order o (suc (place x ys)) 0 0 < suc (length ys)
        → order (get_or (y ∷ ys) (by_order o (suc (place x ys)) 0 0) []) x ≡ Ordering.eq → ⊥)
        → ((place x ys < length ys → order (get_or ys (place x ys) []) x ≡ Ordering.eq → ⊥)
        → insert x ys ≡ take (place x ys) ys ++ (x ∷ drop (place x ys) ys))
        → by_order (order x y) (x ∷ (y ∷ ys)) (y ∷ ys) (y ∷ insert x ys)
        ≡ take (by_order o (suc (place x ys)) 0 0) (y ∷ ys) ++ (x ∷ drop (by_order o (suc (place x ys)) 0 0) (y ∷ ys))
    go Ordering.lt e k n ih =
        rw (answer x y Ordering.gt k) (ap (λ (l : List (List ℕ)). y ∷ l) (ih (λ h. n (omega arith))))
    go Ordering.eq e k n ih = absurd (n (omega arith) e)
    go Ordering.gt e k n ih = rw (answer x y Ordering.lt k) refl

-- ---- rows in a slice
-- every row has w bytes
abbrev pub Wide : ℕ → List (List ℕ) → Type 0
Wide w [] = Unit
Wide w (x ∷ xs) = (length x ≡ w) × Wide w xs

pub length_cut : (w c : ℕ) (s : List ℕ) → length (cut c w s) ≡ c
unfolding cut
length_cut w zero s = refl
length_cut w (suc c) s = ap suc (length_cut w c (drop w s))

pub wide-cut : (w c : ℕ) (s : List ℕ) → c * w ≤ length s → Wide w (cut c w s)
unfolding cut
wide-cut w zero s h = tt
wide-cut w (suc c) s h =
    let e = suc-mul c w in
    (length-take-le w s (omega arith), wide-cut w c (drop w s) (simp length-drop (omega arith)))

pub cut-take : (w p c : ℕ) (s : List ℕ) → p ≤ c → take p (cut c w s) ≡ cut p w s
unfolding cut
cut-take w zero c s h = refl
cut-take w (suc p) zero s h = absurd (omega arith)
cut-take w (suc p) (suc c) s h = ap (λ (l : List (List ℕ)). take w s ∷ l) (cut-take w p c (drop w s) (omega arith))

pub cut-drop : (w p c : ℕ) (s : List ℕ) → p ≤ c → drop p (cut c w s) ≡ cut (c - p) w (drop (p * w) s)
unfolding cut
cut-drop w zero c s h =
    let e : c - 0 ≡ c = omega arith in
    let z : 0 * w ≡ 0 = zero-mul w in
    rw (z, e) refl
cut-drop w (suc p) zero s h = absurd (omega arith)
cut-drop w (suc p) (suc c) s h =
    let e : suc c - suc p ≡ c - p = omega arith in
    let d : w + p * w ≡ suc p * w = omega (arith, suc-mul p w) in
    cut-drop w p c (drop w s) (omega arith) ∙ rw (drop-drop, d, e) refl

pub flat-cut : (w c : ℕ) (s : List ℕ) → flat (cut c w s) ≡ take (c * w) s
unfolding cut flat
flat-cut w zero s = let z : 0 * w ≡ 0 = zero-mul w in rw z refl
flat-cut w (suc c) s =
    let d : suc c * w ≡ w + c * w = omega (arith, suc-mul c w) in
    rw (d, take-add, flat-cut w c (drop w s)) refl

pub row_at : (w i c : ℕ) (s : List ℕ) → i < c → get_or (cut c w s) i [] ≡ take w (drop (i * w) s)
unfolding cut
row_at w i zero s h = absurd (omega arith)
row_at w zero (suc c) s h = let z : 0 * w ≡ 0 = zero-mul w in rw z refl
row_at w (suc i) (suc c) s h =
    let d : w + i * w ≡ suc i * w = omega (arith, suc-mul i w) in
    row_at w i c (drop w s) (omega arith) ∙ rw (drop-drop, d) refl

pub flat_append : (a b : List (List ℕ)) → flat (a ++ b) ≡ flat a ++ flat b
unfolding flat
flat_append [] b = refl
flat_append (x ∷ xs) b = rw (flat_append xs b, append_assoc) refl

pub length-flat : (w : ℕ) (xs : List (List ℕ)) → Wide w xs → length (flat xs) ≡ length xs * w
unfolding flat
length-flat w [] a = sym (zero-mul w)
length-flat w (x ∷ xs) a = simp length-append (omega (arith, a.0, length-flat w xs a.1, suc-mul (length xs) w))

pub cut-flat : (w : ℕ) (xs : List (List ℕ)) (s : List ℕ) → Wide w xs → cut (length xs) w (flat xs ++ s) ≡ xs
unfolding cut flat
cut-flat w [] s a = refl
cut-flat w (x ∷ xs) s a =
    rw (append_assoc, take_at x (flat xs ++ s) w a.0, drop_at x (flat xs ++ s) w a.0, cut-flat w xs s a.1) refl

-- ---- what a slice holds after rows were written
pub written_held : (w : ℕ) (h : Held) (entry exit : List ℕ) (c : ℕ) (m : Bool) → Wide w h.rows
    → Written w h entry exit c m → held_in w exit c m ≡ h
written_held w h entry exit c m a r =
    let e : cut c w exit ≡ h.rows =
    ap (λ (k : ℕ). cut k w exit) r.count ∙ ap (cut (length h.rows) w) r.slice
    ∙ cut-flat w h.rows (drop (c * w) entry) a in
    λ i. record { rows = e i; more = r.more i }

pub rows_le : (a b w : ℕ) → a ≤ b → a * w ≤ b * w
rows_le a b w h = mul-le-mul_right w h

-- one write after another, where the rows do not become fewer
pub written-written : (w : ℕ) (g h : Held) (entry mid exit : List ℕ) (c d : ℕ) (m o : Bool) → Wide w g.rows → c ≤ d
    → Written w g entry mid c m → Written w h mid exit d o → Written w h entry exit d o
written-written w g h entry mid exit c d m o a le r s =
    let f : length (flat g.rows) ≡ c * w = length-flat w g.rows a ∙ ap (λ (k : ℕ). k * w) (sym r.count) in
    let k : c * w ≤ d * w = rows_le c d w le in
    let e : d * w ≡ length (flat g.rows) + (d * w - c * w) = omega arith in
    let t : c * w + (d * w - c * w) ≡ d * w = omega arith in
    let b : drop (d * w) mid ≡ drop (d * w) entry =
    ap (λ (l : List ℕ). drop (d * w) l) r.slice
    ∙ ap (λ (n : ℕ). drop n (flat g.rows ++ drop (c * w) entry)) e
    ∙ drop-append-add (flat g.rows) (drop (c * w) entry) (d * w - c * w)
    ∙ drop-drop (d * w - c * w) (c * w) entry
    ∙ ap (λ (n : ℕ). drop n entry) t
    in
    record { slice = s.slice ∙ ap (λ (l : List ℕ). flat h.rows ++ l) b; count = s.count; more = s.more }

-- ---- bytes moved up by w, from the last down to byte i
abbrev pub Moved : (s : List ℕ) (to w i : ℕ) → List ℕ
Moved s to w i = take (i + w) s ++ (take (to - i) (drop i s) ++ drop (to + w) s)

pub moved_start : (s : List ℕ) (to w : ℕ) → s ≡ Moved s to w to
moved_start s to w =
    let e : to - to ≡ 0 = omega arith in
    rw e (sym (take-append-drop (to + w) s))

module _ (s : List ℕ) (to w i : ℕ) (fits : to + w ≤ length s) (low : i < to) where
  -- the byte to move next is still the one at entry
  pub moved_read : 1 ≤ w → get_or (Moved s to w (i + 1)) i 0 ≡ get_or s i 0
  moved_read h =
      let l : length (take (i + 1 + w) s) ≡ i + 1 + w = length-take-le (i + 1 + w) s (omega arith) in
      get_or-append (take (i + 1 + w) s) (take (to - (i + 1)) (drop (i + 1) s) ++ drop (to + w) s) 0 i (omega arith)
      ∙ get_or-take (i + 1 + w) s i 0 (omega arith)

  pub moved_next : set (Moved s to w (i + 1)) (i + w) (get_or s i 0) ≡ Moved s to w i
  moved_next =
      let e : i + 1 + w ≡ suc (i + w) = omega arith in
      let f : to - i ≡ suc (to - suc i) = omega arith in
      let r : List ℕ = take (to - suc i) (drop (suc i) s) ++ drop (to + w) s in
      rw (e, add-one i, f, take-suc s (i + w) 0 (omega arith), drop-cons s i 0 (omega arith), append_snoc)
      (set_at (take (i + w) s) (get_or s (i + w) 0) r (get_or s i 0) (i + w) (length-take-le (i + w) s (omega arith)))

-- a part of the bytes that stand before those moved is still the one at entry
part_of : (p r : List ℕ) (n k : ℕ) → k + n ≤ length p → take n (drop k (p ++ r)) ≡ take n (drop k p)
part_of p r n k h =
    ap (take n) (drop-append-le k p r (omega arith))
    ∙ take-append-le n (drop k p) r (omega (arith, length-drop k p))

-- bytes moved up from byte i on, and then those from byte k to byte i
pub moved_part : (s : List ℕ) (to w i k : ℕ) → to + w ≤ length s → k ≤ i → i ≤ to
    → Moved (Moved s to w i) i w k ≡ Moved s to w k
moved_part s to w i k fits low high =
    let p : List ℕ = take (i + w) s in
    let r : List ℕ = take (to - i) (drop i s) ++ drop (to + w) s in
    let l : length p ≡ i + w = length-take-le (i + w) s (omega arith) in
    let a : take (k + w) (p ++ r) ≡ take (k + w) s =
    take-append-le (k + w) p r (omega arith) ∙ take-take (k + w) (i + w) s (omega arith)
    in
    let b : take (i - k) (drop k (p ++ r)) ≡ take (i - k) (drop k s) =
    part_of p r (i - k) k (omega arith) ∙ sym (part_of p (drop (i + w) s) (i - k) k (omega arith))
    ∙ ap (λ (u : List ℕ). take (i - k) (drop k u)) (take-append-drop (i + w) s)
    in
    let c : drop (i + w) (p ++ r) ≡ r = drop_at p r (i + w) l in
    let e : to - k ≡ i - k + (to - i) = omega arith in
    let from : k + (i - k) ≡ i = omega arith in
    let d : take (to - k) (drop k s) ≡ take (i - k) (drop k s) ++ take (to - i) (drop i s) =
    ap (λ (n : ℕ). take n (drop k s)) e ∙ take-add (i - k) (to - i) (drop k s)
    ∙ ap (λ (u : List ℕ). take (i - k) (drop k s) ++ take (to - i) u)
    (drop-drop (i - k) k s ∙ ap (λ (n : ℕ). drop n s) from)
    in
    rw (a, b, c, d, append_assoc) refl

-- ---- the place of a row, found by halving
-- what a test of the answer of a comparison says
module _ (o : Ordering) (r : Answer) (e : r ≡ answered o) where
  number : (k : ℕ) → (ordering_index r == k) ≡ (ordering_index (answered o) == k)
  number k = ap (λ (a : Answer). ordering_index a == k) e

  pub answered_less : true ≡ (ordering_index r == 0) → o ≡ Ordering.lt
  answered_less h = go o (h ∙ number 0)
    where
      go : (p : Ordering) → true ≡ (ordering_index (answered p) == 0) → p ≡ Ordering.lt
      go Ordering.lt z = refl
      go Ordering.eq z = absurd (true≢false z)
      go Ordering.gt z = absurd (true≢false z)

  pub answered_not_less : false ≡ (ordering_index r == 0) → o ≡ Ordering.lt → ⊥
  answered_not_less h l =
      true≢false (sym (h ∙ number 0 ∙ ap (λ (p : Ordering). ordering_index (answered p) == 0) l))

  pub answered_same : true ≡ (ordering_index r == 1) → o ≡ Ordering.eq
  answered_same h = go o (h ∙ number 1)
    where
      go : (p : Ordering) → true ≡ (ordering_index (answered p) == 1) → p ≡ Ordering.eq
      go Ordering.lt z = absurd (true≢false z)
      go Ordering.eq z = refl
      go Ordering.gt z = absurd (true≢false z)

  pub answered_not_same : false ≡ (ordering_index r == 1) → o ≡ Ordering.eq → ⊥
  answered_not_same h l =
      true≢false (sym (h ∙ number 1 ∙ ap (λ (p : Ordering). ordering_index (answered p) == 1) l))

-- a row below the count lies in the bytes of the rows
pub row_fits : (i c w : ℕ) → i < c → i * w + w ≤ c * w
row_fits i c w h = omega (arith, suc-mul i w, rows_le (suc i) c w h)

-- the order of row m of the slice and x
abbrev pub OrderAt : (s : List ℕ) (m : ℕ) (x : List ℕ) → Ordering
OrderAt s m x = order (take (length x) (drop (m * length x) s)) x

pub order-at : (s : List ℕ) (c : ℕ) (x : List ℕ) (m : ℕ) → m < c
    → order (get_or (cut c (length x) s) m []) x ≡ OrderAt s m x
order-at s c x m low = ap (λ (v : List ℕ). order v x) (row_at (length x) m c s low)

module _ (s : List ℕ) (c : ℕ) (x : List ℕ) (m : ℕ) (r : Answer) (low : m < c) (e : r ≡ answered (OrderAt s m x)) where
  in_rows : m < length (cut c (length x) s)
  in_rows = rw length_cut low

  pub place_up : Ascending (cut c (length x) s) → true ≡ (ordering_index r == 0) → m + 1 ≤ place x (cut c (length x) s)
  place_up a z =
      let p =
      place-above x m (cut c (length x) s) a in_rows (order-at s c x m low ∙ answered_less (OrderAt s m x) r e z) in
      omega arith

  pub place_down : false ≡ (ordering_index r == 0) → place x (cut c (length x) s) ≤ m
  place_down n =
      place-below x m (cut c (length x) s) in_rows
      (λ l. answered_not_less (OrderAt s m x) r e n (sym (order-at s c x m low) ∙ l))

pub place-count : (s : List ℕ) (c : ℕ) (x : List ℕ) → place x (cut c (length x) s) ≤ c
place-count s c x = let p = place-length x (cut c (length x) s) in omega (arith, length_cut (length x) c s)
