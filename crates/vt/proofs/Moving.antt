-- Packed bits moved on by one, byte by byte from a first one on. Assumes nothing.
use Prim.Native.Nat.{ℕ, ◌+◌, ◌-◌, ◌*◌, ◌/◌, ◌%◌, ◌<◌, ◌≤◌}
use mathlib.Core.Path.{◌≡◌, refl, sym, ap, ◌∙◌}
use mathlib.Core.List.{List, ◌∷◌, ◌++◌}
use native.Mathlib.Omega.{arith}
use lib.ListN.{length, get_or, take, drop, set, length-drop}
use lib.Seq.{paste, get_or-drop}
use Rattle.bits.specs.Bits.{AllBytes, bytes, unpack}
use Rattle.bits.proofs.Copy.{paste_next, paste_whole}
use Rattle.bits.proofs.Packing.{bytes-at, length-bytes}
use Rattle.bits.proofs.Spans.{moved_byte}

module _ (s o : List ℕ) (from count : ℕ) (h : 1 ≤ from) (k : count ≤ length o) where
  -- the bytes from the first one on
  abbrev behind : List ℕ
  behind = drop from (bytes count (0 ∷ unpack s))

  behind-length : length behind ≡ count - from
  behind-length =
      length-drop from (bytes count (0 ∷ unpack s)) ∙ ap (λ (n : ℕ). n - from) (length-bytes count (0 ∷ unpack s))

  -- byte i of them
  moved_at : AllBytes s → (i : ℕ) → from ≤ i → i < count
      → get_or s (i - 1) 0 % 2 * 128 + get_or s i 0 / 2 ≡ get_or behind (i - from) 0
  moved_at a i l m =
      let e : i - 1 + 1 ≡ i = omega arith in
      let f : from + (i - from) ≡ i = omega arith in
      ap (λ (j : ℕ). get_or s (i - 1) 0 % 2 * 128 + get_or s j 0 / 2) (sym e) ∙ moved_byte s a 0 (i - 1)
      ∙ rw e (sym (get_or-drop from (bytes count (0 ∷ unpack s)) (i - from) 0 ∙ rw f (bytes-at count i (0 ∷ unpack s) m)))

  -- a turn of the loop
  pub moved_next : AllBytes s → (q : List ℕ) (i v : ℕ) → from ≤ i → i < count
      → v ≡ get_or s (i - 1) 0 % 2 * 128 + get_or s i 0 / 2 → q ≡ paste o from behind (i - from)
      → set q i v ≡ paste o from behind (i + 1 - from)
  moved_next a q i v l m e f =
      let g : from + (i - from) ≡ i = omega arith in
      let n : i + 1 - from ≡ i - from + 1 = omega arith in
      rw (f, e, moved_at a i l m, n)
      (ap (λ (j : ℕ). set (paste o from behind (i - from)) j (get_or behind (i - from) 0)) (sym g)
      ∙ paste_next o from behind (i - from) (omega arith) (omega (arith, behind-length)))

  -- all of them
  pub moved_all : (q : List ℕ) (i : ℕ) → from ≤ count → i ≡ count → q ≡ paste o from behind (i - from)
      → q ≡ take from o ++ behind ++ drop count o
  moved_all q i l e f =
      let n : from + length behind ≡ count = omega (arith, behind-length) in
      f ∙ paste_whole o from behind (i - from) (omega (arith, behind-length)) ∙ rw n refl
