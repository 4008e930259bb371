-- Texts put into a slice one after another. Assumes nothing.
use Prim.Native.Nat.{ℕ, ◌+◌, ◌≤◌}
use mathlib.Core.Path.{◌≡◌, refl, sym, ap, ap₂, ◌∙◌}
use mathlib.Core.List.{List, [], ◌++◌, append_assoc, append-nil}
use native.Mathlib.Nat.{add-zero, zero-add}
use native.Mathlib.Omega.{arith}
use lib.ListN.{length, take, drop, length-append, take-append-drop}
use lib.Seq.{length-take-le}
use Rattle.bits.proofs.Copy.{part_next}
use Rattle.rowtext.specs.Text.{Put}

-- nothing is put
pub put-none : (s : List ℕ) (at : ℕ) → Put [] at s s at
put-none s at = record {
  slice =
      sym
      (ap (λ (n : ℕ). take at s ++ [] ++ drop n s) (add-zero at)
      ∙ ap (λ (t : List ℕ). t ++ drop at s) (append-nil (take at s))
      ∙ take-append-drop at s);
  after = sym (add-zero at);
}

-- a text is put at the start
pub put_front : (text s now : List ℕ) → now ≡ text → Put text 0 s (now ++ drop (length text) s) (length text)
put_front text s now e = record {
  slice = rw (zero-add (length text), e) refl;
  after = sym (zero-add (length text));
}

-- what stands up to the end of a text
length_up_to : (text entry : List ℕ) (at : ℕ) → at ≤ length entry → length (take at entry ++ text) ≡ at + length text
length_up_to text entry at h =
    length-append (take at entry) text ∙ ap (λ (k : ℕ). k + length text) (length-take-le at entry h)

-- one text after another is both together
pub put_then : {a b entry mid exit : List ℕ} {at p q : ℕ} → Put a at entry mid p → Put b p mid exit q → at ≤ length entry
    → Put (a ++ b) at entry exit q
put_then {a} {b} {entry} {mid} {exit} {at} {p} {q} f g h =
    let w : length (a ++ b) ≡ length a + length b = length-append a b in
    let e : at + length a + length b ≡ at + length (a ++ b) = omega arith in
    record {
      slice =
          g.slice
          ∙ ap₂ (λ (k : ℕ) (t : List ℕ). take k t ++ b ++ drop (k + length b) t) f.after f.slice
          ∙ part_next (take at entry ++ a) b entry (at + length a) (length b) (length_up_to a entry at h)
          ∙ ap₂ (λ (t : List ℕ) (k : ℕ). t ++ drop k entry) (append_assoc (take at entry) a b) e;
      after = omega (arith, f.after, g.after);
    }

-- the place after it is in the slice
pub put-within : {text entry exit : List ℕ} {at next : ℕ} → Put text at entry exit next → at ≤ length entry
    → next ≤ length exit
put-within {text} {entry} {exit} {at} p h =
    let n = ap length p.slice ∙ length-append (take at entry ++ text) (drop (at + length text) entry) in
    omega (arith, p.after, length_up_to text entry at h)
