-- Where the parts of the input stand. Assumes nothing.
use Prim.Native.Nat.{ℕ, ◌+◌, ◌-◌, ◌*◌, ◌<◌, ◌≤◌, min}
use mathlib.Core.Path.{◌≡◌, refl, sym, ap, ap₂, ◌∙◌}
use mathlib.Core.Bool.{Bool, true, false}
use mathlib.Core.List.{List}
use native.Mathlib.Omega.{arith}
use borrow.Author.Tests.{lt-ltb, le-ltb, ltb-true, ltb-false}
use lib.Dec.{ltb}
use lib.ListN.{length, get_or, take, drop, length-drop, drop_of_length-le}
use lib.Seq.{take_all, drop-drop}
use Rattle.rowtext.specs.Input.{length_at, message_in, after_message, bits_in, row_in, Split}

-- ---- the two bytes of a length
module _ (s : List ℕ) where
  pub no_length : length s < 2 → 0 ≡ length_at s
  unfolding length_at
  no_length h = rw (lt-ltb (length s) 2 h) refl

  pub two_bytes : 2 ≤ length s → get_or s 0 0 * 256 + get_or s 1 0 ≡ length_at s
  unfolding length_at
  two_bytes h = rw (le-ltb (length s) 2 h) refl

-- ---- the parts
-- a place past the end is taken for the end
module _ (n : ℕ) (s : List ℕ) where
  drop-lower : drop (min n (length s)) s ≡ drop n s
  drop-lower = go (ltb (length s) n) refl
    where
      go : (t : Bool) → ltb (length s) n ≡ t → drop (min n (length s)) s ≡ drop n s
      go true e =
          let h = ltb-true (length s) n e in
          drop_of_length-le s {i = min n (length s)} (omega arith) ∙ sym (drop_of_length-le s {i = n} (omega arith))
      go false e =
          let h = ltb-false (length s) n e in
          let m : min n (length s) ≡ n = omega arith in
          ap (λ (k : ℕ). drop k s) m

  take-lower : take (min n (length s)) s ≡ take n s
  take-lower = go (ltb (length s) n) refl
    where
      go : (t : Bool) → ltb (length s) n ≡ t → take (min n (length s)) s ≡ take n s
      go true e =
          let h = ltb-true (length s) n e in
          take_all (min n (length s)) s (omega arith) ∙ sym (take_all n s (omega arith))
      go false e =
          let h = ltb-false (length s) n e in
          let m : min n (length s) ≡ n = omega arith in
          ap (λ (k : ℕ). take k s) m

-- k bytes behind the first two
middle : (s : List ℕ) (k : ℕ)
    → take (min (2 + k) (length s) - min 2 (length s)) (drop (min 2 (length s)) s) ≡ take k (drop 2 s)
middle s k =
    let n : min (2 + k) (length s) - min 2 (length s) ≡ min k (length (drop 2 s)) = simp length-drop (omega arith) in
    ap₂ take n (drop-lower 2 s) ∙ take-lower k (drop 2 s)

-- and what is behind two more
behind : (s : List ℕ) (k : ℕ) → drop (min (4 + k) (length s)) s ≡ drop 2 (drop (2 + k) s)
behind s k =
    let n : 4 + k ≡ 2 + k + 2 = omega arith in
    drop-lower (4 + k) s ∙ ap (λ (i : ℕ). drop i s) n ∙ sym (drop-drop 2 (2 + k) s)

pub split_at : (s : List ℕ) (k m : ℕ) → k ≡ length_at s → m ≡ length_at (drop (min (2 + k) (length s)) s)
    → Split s (min 2 (length s)) (min (2 + k) (length s)) m (min (4 + k) (length s))
split_at s k m e h = record {
  ordered = omega arith;
  ends = omega arith;
  begins = omega arith;
  message = middle s k ∙ rw e message-is;
  bits = h ∙ ap length_at (drop-lower (2 + k) s) ∙ rw e bits_are;
  rest = behind s k ∙ rw e row_is;
}
  where
    message-is : take (length_at s) (drop 2 s) ≡ message_in s
    message-is = unfold message_in in refl

    bits_are : length_at (drop (2 + length_at s) s) ≡ bits_in s
    bits_are = unfold bits_in after_message in refl

    row_is : drop 2 (drop (2 + length_at s) s) ≡ row_in s
    row_is = unfold row_in after_message in refl
