-- What a slice holds after a string is copied to it in two parts with a bit between them. Assumes nothing.
use Prim.Native.Nat.{ℕ, suc, ◌+◌, ◌-◌, ◌<◌, ◌≤◌}
use mathlib.Core.Path.{◌≡◌, refl, sym, ap, ◌∙◌}
use mathlib.Core.List.{List, [], ◌∷◌, ◌++◌, append_assoc}
use native.Mathlib.Omega.{arith}
use lib.ListN.{length, get_or, take, drop, set, length-append}
use lib.Seq.{length-take-le, drop-cons, set_at, take_at, append_snoc, drop-drop, drop-append-add}

-- after the bit
with_bit : (x o : List ℕ) (at b : ℕ) → at ≤ length x → at < length o → (p : List ℕ) → p ≡ take at x ++ drop at o
    → set p at b ≡ take at x ++ (b ∷ drop (suc at) o)
with_bit x o at b h k p e =
    rw (e, drop-cons o at 0 k) (set_at (take at x) (get_or o at 0) (drop (suc at) o) b at (length-take-le at x h))

-- up to the bit, and far enough behind it
pub bit_front : (x o : List ℕ) (at b : ℕ) → at ≤ length x → at < length o → (p : List ℕ) → p ≡ take at x ++ drop at o
    → take (at + 1) (set p at b) ≡ take at x ++ (b ∷ [])
bit_front x o at b h k p e =
    let n : length (take at x ++ (b ∷ [])) ≡ at + 1 =
    length-append (take at x) (b ∷ []) ∙ omega (arith, length-take-le at x h) in
    rw (with_bit x o at b h k p e, ← append_snoc (take at x) b (drop (suc at) o))
    (take_at (take at x ++ (b ∷ [])) (drop (suc at) o) (at + 1) n)

pub bit_back : (x o : List ℕ) (at b n : ℕ) → at ≤ length x → at < length o → (p : List ℕ) → p ≡ take at x ++ drop at o
    → at < n → drop n (set p at b) ≡ drop n o
bit_back x o at b n h k p e l =
    let m : ℕ = n - at - 1 in
    let f : n ≡ length (take at x) + suc m = omega (arith, length-take-le at x h) in
    let g : suc at + m ≡ n = omega arith in
    rw (with_bit x o at b h k p e)
    (ap (λ (j : ℕ). drop j (take at x ++ (b ∷ drop (suc at) o))) f
    ∙ drop-append-add (take at x) (b ∷ drop (suc at) o) (suc m) ∙ drop-drop m (suc at) o ∙ ap (λ (j : ℕ). drop j o) g)

module _ (x o : List ℕ) (at b : ℕ) (h : at ≤ length x) (k : length x + 1 ≤ length o) where
  -- after the part behind the bit
  pub both_parts : (v : List ℕ) → v ≡ drop at x
      → take (at + 1) (set (take at x ++ drop at o) at b)
      ++ (v ++ drop (length x + 1 - (at + 1)) (drop (at + 1) (set (take at x ++ drop at o) at b)))
      ≡ take at x ++ (b ∷ drop at x) ++ drop (length x + 1) o
  both_parts v e =
      let p : List ℕ = take at x ++ drop at o in
      let m : ℕ = length x + 1 - (at + 1) in
      let r : List ℕ = drop (length x + 1) o in
      let n : at + 1 + m ≡ length x + 1 = omega arith in
      let front : take (at + 1) (set p at b) ≡ take at x ++ (b ∷ []) = bit_front x o at b h (omega arith) p refl in
      let back : drop m (drop (at + 1) (set p at b)) ≡ r =
      drop-drop m (at + 1) (set p at b) ∙ ap (λ (j : ℕ). drop j (set p at b)) n
      ∙ bit_back x o at b (length x + 1) h (omega arith) p refl (omega arith) in
      rw (front, back, e)
      (sym (append_assoc (take at x ++ (b ∷ [])) (drop at x) r)
      ∙ ap (λ (l : List ℕ). l ++ r) (append_snoc (take at x) b (drop at x)))
