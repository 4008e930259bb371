-- Packing keeps dictionary order, so what is held can be kept packed: adding packed rows is packing what is added.
-- Assumes nothing.
use Prim.Native.Nat.{ℕ, zero, suc, ◌+◌, ◌*◌, ◌^◌, ◌<◌, ◌≤◌, compare, Ordering}
use mathlib.Core.Path.{◌≡◌, refl, sym, ap, ◌∙◌, subst}
use mathlib.Core.Bool.{Bool, true, false, ◌||◌}
use mathlib.Core.Logic.{inl, inr, ⊎_elim}
use mathlib.Core.List.{List, [], ◌∷◌, ◌++◌, map}
use native.Mathlib.Omega.{arith}
use lib.Dec.{ltb}
use lib.ListN.{length, take, drop, length-drop, length-map, take-append-drop}
use Rattle.bits.specs.Bits.{cut, AllBits, number, bytes, bytes_for, pack, unpack}
use Rattle.bits.proofs.Laws.{number_lt, bits-drop}
use Rattle.bits.proofs.Packing.{length-pack, unpack-pack}
use Rattle.rows.specs.Held.{Held, none, insert, union, add, WellHeld}
use Rattle.rows.specs.Order.{by_order, order, Mem, Before, Ascending, Row}
use Rattle.rows.specs.Rows.{all_rows, keep}
use Rattle.rows.specs.Slice.{flat, held_in, Written, packed, rows_of_slice}
use Rattle.rows.proofs.Held.{insert-only, add-add, add-well, add-length, add_kept}
use Rattle.rows.proofs.Order.{ComparedN, compared_n, answer_n, order-less, answer}
use Rattle.rows.proofs.Slice.{Wide, length_cut, flat-cut, written_held, written-written}

-- ---- packing keeps the order
-- the same number in front of two does not change their order
compare_plus : (p u v : ℕ) → compare (p + u) (p + v) ≡ compare u v
compare_plus p u v = answer_n (p + u) (p + v) (compare u v) (go (compare u v) (compared_n u v))
  where
    go : (o : Ordering) → ComparedN u v o → ComparedN (p + u) (p + v) o
    go Ordering.lt h = omega arith
    go Ordering.eq h = omega arith
    go Ordering.gt h = omega arith

-- the first j bits decide as the number that they spell does
order-number : (j : ℕ) (x y : List ℕ) → length x ≡ length y → AllBits x → AllBits y
    → order x y ≡ by_order (compare (number j x) (number j y)) Ordering.lt (order (drop j x) (drop j y)) Ordering.gt
unfolding order number
order-number zero x y e a b = refl
order-number (suc j) [] [] e a b = refl
order-number (suc j) [] (c ∷ y) e a b = absurd (omega (arith, e))
order-number (suc j) (c ∷ x) [] e a b = absurd (omega (arith, e))
order-number (suc j) (b ∷ x) (c ∷ y) e p q = go b c p.0 q.0 (order-number j x y (omega (arith, e)) p.1 q.1)
  where
    go : (b c : ℕ) → b < 2 → c < 2
        → order x y ≡ by_order (compare (number j x) (number j y)) Ordering.lt (order (drop j x) (drop j y)) Ordering.gt
        → by_order (compare b c) Ordering.lt (order x y) Ordering.gt
        ≡ by_order (compare (b * 2 ^ j + number j x) (c * 2 ^ j + number j y)) Ordering.lt (order (drop j x) (drop j y))
        Ordering.gt
    go zero zero h k r = rw (compare_plus (0 * 2 ^ j) (number j x) (number j y)) r
    go (suc zero) (suc zero) h k r = rw (compare_plus (1 * 2 ^ j) (number j x) (number j y)) r
    go zero (suc zero) h k r =
        rw (answer_n (0 * 2 ^ j + number j x) (1 * 2 ^ j + number j y) Ordering.lt
        (omega (arith, number_lt j x p.1))) refl
    go (suc zero) zero h k r =
        rw (answer_n (1 * 2 ^ j + number j x) (0 * 2 ^ j + number j y) Ordering.gt
        (omega (arith, number_lt j y q.1))) refl
    go zero (suc (suc c)) h k r = absurd (omega arith)
    go (suc zero) (suc (suc c)) h k r = absurd (omega arith)
    go (suc (suc b)) c h k r = absurd (omega arith)

bytes-order : (k : ℕ) (x y : List ℕ) → length x ≡ length y → length x ≤ k * 8 → AllBits x → AllBits y
    → order (bytes k x) (bytes k y) ≡ order x y
unfolding bytes order
bytes-order zero [] [] e l a b = refl
bytes-order zero [] (c ∷ y) e l a b = absurd (omega (arith, e))
bytes-order zero (c ∷ x) y e l a b = absurd (omega (arith, l))
bytes-order (suc k) x y e l a b =
    let r =
    bytes-order k (drop 8 x) (drop 8 y) (simp length-drop (omega arith)) (simp length-drop (omega arith))
    (bits-drop 8 x a) (bits-drop 8 y b) in
    rw r (sym (order-number 8 x y e a b))

-- packed rows of one length stand in the order of their bits
pub pack-order : (n : ℕ) (x y : List ℕ) → Row n x → Row n y → order (pack x) (pack y) ≡ order x y
unfolding pack
pack-order n x y r s =
    let e : bytes_for (length x) ≡ bytes_for n = ap bytes_for r.0 in
    let f : bytes_for (length y) ≡ bytes_for n = ap bytes_for s.0 in
    rw (e, f) (bytes-order (bytes_for n) x y (r.0 ∙ sym s.0) (omega (arith, r.0)) r.1 s.1)

-- ---- what is held, packed
map-take : (c : ℕ) (ys : List (List ℕ)) → take c (map pack ys) ≡ map pack (take c ys)
map-take zero ys = refl
map-take (suc c) [] = refl
map-take (suc c) (y ∷ ys) = ap (λ (l : List (List ℕ)). pack y ∷ l) (map-take c ys)

-- every row is a row of n bits
abbrev pub Rows : ℕ → List (List ℕ) → Type 0
Rows n xs = (x : List ℕ) → Mem x xs → Row n x

pack-insert : (n : ℕ) (x : List ℕ) (ys : List (List ℕ)) → Row n x → Rows n ys
    → insert (pack x) (map pack ys) ≡ map pack (insert x ys)
unfolding insert
pack-insert n x [] r s = refl
pack-insert n x (y ∷ ys) r s =
    rw (pack-order n x y r (s y (inl refl))) (go (order x y) (pack-insert n x ys r (λ z m. s z (inr m))))
  where
    go : (o : Ordering) → insert (pack x) (map pack ys) ≡ map pack (insert x ys)
        → by_order o (pack x ∷ (pack y ∷ map pack ys)) (pack y ∷ map pack ys) (pack y ∷ insert (pack x) (map pack ys))
        ≡ map pack (by_order o (x ∷ (y ∷ ys)) (y ∷ ys) (y ∷ insert x ys))
    go Ordering.lt e = refl
    go Ordering.eq e = refl
    go Ordering.gt e = ap (λ (l : List (List ℕ)). pack y ∷ l) e

rows-insert : (n : ℕ) (x : List ℕ) (ys : List (List ℕ)) → Row n x → Rows n ys → Rows n (insert x ys)
rows-insert n x ys r s z m = ⊎_elim (λ e. subst (λ (v : List ℕ). Row n v) (sym e) r) (s z) (insert-only z x ys m)

pack-union : (n : ℕ) (ys xs : List (List ℕ)) → Rows n ys → Rows n xs
    → union (map pack ys) (map pack xs) ≡ map pack (union ys xs)
unfolding union
pack-union n ys [] s r = refl
pack-union n ys (x ∷ xs) s r =
    ap (λ (l : List (List ℕ)). union l (map pack xs)) (pack-insert n x ys (r x (inl refl)) s)
    ∙ pack-union n (insert x ys) xs (rows-insert n x ys (r x (inl refl)) s) (λ z m. r z (inr m))

-- adding packed rows is packing what is added
pub packed-add : (cap n : ℕ) (h : Held) (xs : List (List ℕ)) → Rows n h.rows → Rows n xs
    → add cap (packed h) (map pack xs) ≡ packed (add cap h xs)
unfolding add
packed-add cap n h xs s r =
    rw (pack-union n h.rows xs s r)
    (λ i. record {
      rows = map-take cap (union h.rows xs) i;
      more = h.more || ltb cap (length-map (union h.rows xs) pack i);
    })

-- ---- rows of n bits, packed in a slice
before-packed : (n : ℕ) (x : List ℕ) (ys : List (List ℕ)) → Row n x → Rows n ys → Before x ys
    → Before (pack x) (map pack ys)
before-packed n x [] r s b = tt
before-packed n x (y ∷ ys) r s b = (
  order-less (pack x) (pack y) (pack-order n x y r (s y (inl refl)) ∙ answer x y Ordering.lt b.0),
  before-packed n x ys r (λ z m. s z (inr m)) b.1,
)

pub packed-ascending : (n : ℕ) (xs : List (List ℕ)) → Rows n xs → Ascending xs → Ascending (map pack xs)
packed-ascending n [] s a = tt
packed-ascending n (x ∷ xs) s a =
    (before-packed n x xs (s x (inl refl)) (λ z m. s z (inr m)) a.0, packed-ascending n xs (λ z m. s z (inr m)) a.1)

pub packed-wide : (n : ℕ) (xs : List (List ℕ)) → Rows n xs → Wide (bytes_for n) (map pack xs)
packed-wide n [] s = tt
packed-wide n (x ∷ xs) s =
    (length-pack x ∙ ap bytes_for (s x (inl refl)).0, packed-wide n xs (λ z m. s z (inr m)))

unpacked : (n : ℕ) (xs : List (List ℕ)) → Rows n xs → map (λ (b : List ℕ). take n (unpack b)) (map pack xs) ≡ xs
unpacked n [] s = refl
unpacked n (x ∷ xs) s =
    let r = s x (inl refl) in
    let e : take n (unpack (pack x)) ≡ x = ap (λ (k : ℕ). take k (unpack (pack x))) (sym r.0) ∙ unpack-pack x r.1 in
    let t = unpacked n xs (λ z m. s z (inr m)) in
    cc

-- a slice that holds h packed holds the rows of h
pub rows_in : (n : ℕ) (h : Held) (s : List ℕ) (c : ℕ) (m : Bool) → Rows n h.rows → held_in (bytes_for n) s c m ≡ packed h
    → rows_of_slice n s c m ≡ h
rows_in n h s c m r e =
    ap {B = Held} (λ (g : Held). record { rows = map (λ (b : List ℕ). take n (unpack b)) g.rows; more = g.more }) e
    ∙ (λ i. record { rows = unpacked n h.rows r i; more = h.more })

module _ {cap n : ℕ} {f : List ℕ → Bool} {h : Held} (w : WellHeld cap n f h) where
  rows-held : Rows n h.rows
  rows-held x m = (w.each x m).0

  -- what the function `insert` requires of a slice that holds h packed
  pub insert-ready : (s : List ℕ) (c : ℕ) (m : Bool) → held_in (bytes_for n) s c m ≡ packed h
      → (c ≤ cap) × Ascending (cut c (bytes_for n) s)
  insert-ready s c m e =
      let rows : cut c (bytes_for n) s ≡ map pack h.rows = ap (λ (g : Held). g.rows) e in
      let many : c ≡ length h.rows = sym (length_cut (bytes_for n) c s) ∙ ap length rows ∙ length-map h.rows pack in
      (omega (arith, w.at_most), subst Ascending (sym rows) (packed-ascending n h.rows rows-held w.ascending))

  -- what it leaves there: h with the row y added, packed
  pub insert-packed : (s exit : List ℕ) (c d : ℕ) (m o : Bool) (y : List ℕ) → Row n y
      → held_in (bytes_for n) s c m ≡ packed h
      → Written (bytes_for n) (add cap (held_in (bytes_for n) s c m) (pack y ∷ [])) s exit d o
      → Written (bytes_for n) (packed (add cap h (y ∷ []))) s exit d o
  insert-packed s exit c d m o y r e k =
      let only : Rows n (y ∷ []) = λ z p. ⊎_elim (λ q. subst (λ (v : List ℕ). Row n v) (sym q) r) (λ q. absurd q) p in
      subst (λ (g : Held). Written (bytes_for n) g s exit d o)
      (ap (λ (g : Held). add cap g (pack y ∷ [])) e ∙ packed-add cap n h (y ∷ []) rows-held only) k

  -- a slice to which h was written holds h packed
  pub written-packed : (entry exit : List ℕ) (c : ℕ) (m : Bool) → Written (bytes_for n) (packed h) entry exit c m
      → held_in (bytes_for n) exit c m ≡ packed h
  written-packed entry exit c m k =
      written_held (bytes_for n) (packed h) entry exit c m (packed-wide n h.rows rows-held) k

  -- a slice that is left alone: what it holds is as at entry
  pub written_none : (s : List ℕ) (c : ℕ) (m : Bool) → held_in (bytes_for n) s c m ≡ packed h
      → Written (bytes_for n) (packed h) s s c m
  written_none s c m e =
      subst (λ (g : Held). Written (bytes_for n) g s s c m) e
      (record {
        slice =
            sym (ap (λ (l : List ℕ). l ++ drop (c * bytes_for n) s) (flat-cut (bytes_for n) c s)
            ∙ take-append-drop (c * bytes_for n) s);
        count = sym (length_cut (bytes_for n) c s);
        more = refl;
      })

  -- one part written after another is their union written
  pub written_next : (a b : List (List ℕ)) → ((x : List ℕ) → Mem x a → Row n x × (f x ≡ true))
      → (entry mid exit : List ℕ) (c d : ℕ) (m o : Bool) → Written (bytes_for n) (packed (add cap h a)) entry mid c m
      → Written (bytes_for n) (packed (add cap (add cap h a) b)) mid exit d o
      → Written (bytes_for n) (packed (add cap h (a ++ b))) entry exit d o
  written_next a b r entry mid exit c d m o first second =
      let v = add-well w a r in
      let g : Held = add cap h a in
      let more : length g.rows ≤ length (add cap g b).rows = add-length cap g b v.at_most in
      let le : c ≤ d =
      omega (arith, first.count, second.count, length-map g.rows pack, length-map (add cap g b).rows pack) in
      let all =
      written-written (bytes_for n) (packed g) (packed (add cap g b)) entry mid exit c d m o
      (packed-wide n g.rows (λ x p. (v.each x p).0)) le first second in
      subst (λ (k : Held). Written (bytes_for n) (packed k) entry exit d o) (add-add cap h a b) all

-- ---- the beginning and the end of a search
-- a slice of which nothing is used yet holds nothing
pub none-packed : (n : ℕ) (s : List ℕ) → held_in (bytes_for n) s 0 false ≡ packed none
unfolding cut
none-packed n s = refl

-- what the slice holds once all rows that pass a test were added to nothing: the first cap of them, and that there are
-- more exactly when there are
pub record Listed (cap n : ℕ) (f : List ℕ → Bool) (entry exit : List ℕ) (c : ℕ) (m : Bool) : Type 0 where
  pub slice : exit ≡ flat (map pack (take cap (keep f (all_rows n)))) ++ drop (c * bytes_for n) entry
  pub count : c ≡ length (take cap (keep f (all_rows n)))
  pub more : m ≡ ltb cap (length (keep f (all_rows n)))

pub written_listed : (cap n : ℕ) (f : List ℕ → Bool) (entry exit : List ℕ) (c : ℕ) (m : Bool)
    → Written (bytes_for n) (packed (add cap none (keep f (all_rows n)))) entry exit c m → Listed cap n f entry exit c m
written_listed cap n f entry exit c m w =
    let v = subst (λ (g : Held). Written (bytes_for n) (packed g) entry exit c m) (add_kept cap n f) w in
    record { slice = v.slice; count = v.count ∙ length-map (take cap (keep f (all_rows n))) pack; more = v.more }
