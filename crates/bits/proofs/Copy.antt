-- A list written element by element at the start of a slice, or from a place on. Assumes nothing.
use Prim.Native.Nat.{ℕ, ◌+◌, ◌<◌, ◌≤◌}
use mathlib.Core.Path.{◌≡◌, refl, sym, ap, ◌∙◌}
use mathlib.Core.List.{List, [], ◌∷◌, ◌++◌}
use native.Mathlib.Nat.{zero-add}
use native.Mathlib.Numerals.{add-one, towards_suc}
use lib.ListN.{length, get_or, take, drop, set}
use lib.Seq.{paste, paste-suc, take-length, sets-eq, take_at, drop-append-add, drop-drop}

-- a turn that stores element i of s at place at + i takes the copy of i elements to that of i + 1
pub paste_next : (d : List ℕ) (at : ℕ) (s : List ℕ) (i : ℕ) → at + i < length d → i < length s
    → set (paste d at s i) (at + i) (get_or s i 0) ≡ paste d at s (i + 1)
paste_next d at s i h k = rw (add-one i) (paste-suc d at s i 0 h k)

-- the whole list copied
pub paste_whole : (o : List ℕ) (at : ℕ) (x : List ℕ) (i : ℕ) → i ≡ length x
    → paste o at x i ≡ take at o ++ x ++ drop (at + length x) o
paste_whole o at x i e = rw (e, take-length x) refl

-- a turn of a copy to the start of the slice
pub front_next : (d s : List ℕ) (i : ℕ) → i < length d → i < length s
    → set (take i s ++ drop i d) i (get_or s i 0) ≡ take (i + 1) s ++ drop (i + 1) d
front_next d s i h k =
    let e : 0 + i ≡ i = zero-add i in
    let f : 0 + (i + 1) ≡ i + 1 = zero-add (i + 1) in
    rw (e, f) at (paste_next d 0 s i (rw e h) k)

-- what is written after a part that stands at the start of a slice stands behind it
pub part_next : (p f d : List ℕ) (n m : ℕ) → length p ≡ n
    → take n (p ++ drop n d) ++ f ++ drop (n + m) (p ++ drop n d) ≡ p ++ f ++ drop (n + m) d
part_next p f d n m e =
    let back : drop (n + m) (p ++ drop n d) ≡ drop (n + m) d =
    ap (λ (k : ℕ). drop (k + m) (p ++ drop n d)) (sym e) ∙ drop-append-add p (drop n d) m ∙ drop-drop m n d in
    rw (take_at p (drop n d) n e, back) refl

-- eight stores one after another
pub stored_eight : (d : List ℕ) (at a b c e f g h k : ℕ) → at + 8 ≤ length d
    → set (set (set (set (set (set (set (set d at a) (at + 1) b) (at + 2) c) (at + 3) e) (at + 4) f) (at + 5) g)
    (at + 6) h) (at + 7) k ≡ take at d ++ (a ∷ b ∷ c ∷ e ∷ f ∷ g ∷ h ∷ k ∷ []) ++ drop (at + 8) d
stored_eight d at a b c e f g h k l =
    simp towards_suc (simp towards_suc at (sets-eq (a ∷ b ∷ c ∷ e ∷ f ∷ g ∷ h ∷ k ∷ []) d at l))
