-- What reading answers, by what the checks of the message and the length of the target say. Assumes nothing.
use Prim.Native.Nat.{ℕ, suc, ◌+◌, ◌<◌, ◌≤◌}
use mathlib.Core.Path.{◌≡◌, refl, sym, ap, ◌∙◌}
use mathlib.Core.Bool.{true, cond}
use mathlib.Core.List.{List, [], ◌∷◌, ◌++◌}
use native.Mathlib.Omega.{arith}
use borrow.Author.Tests.{lt-ltb, le-ltb, eq-eqb, ne_eqb}
use lib.Dec.{eqb, ltb, eqb-suc-zero}
use lib.ListN.{length, drop, length-append}
use Rattle.refusal.specs.Refusal.{number_of, first_refusal}
use Rattle.refusal.specs.declared.Refusal.{Refusal}
use Rattle.refusal.proofs.Laws.{Numbered, numbered, refused_before, passed_before}
use Rattle.message.specs.Layout.{legal}
use Rattle.message.specs.Message.{message_bytes}
use Rattle.message.specs.Read.{LayoutAnswer, no_layout, read_of, layout_of, message_checks, message_refusal, numbers_read, read_block_sums, read_string_sums, read_checks, read_refusal, layout_answer, read_target}
use Rattle.std.specs.Prelude.{Result, Ok, Err}
use Rattle.message.specs.declared.Layout.{Layout}
use Rattle.message.specs.declared.layouts.Legal.{Legal}
use Rattle.message.proofs.Messages.{Fit, fit}
use Rattle.message.proofs.Numbers.{block_count, string_count, check-count}

-- ---- what an answer says
-- an answer with a layout: no refusal, and the layout is the one that the head names
pub found : (s : List ℕ) (a : Result Legal Refusal) (l : Legal) → a ≡ Ok l → read_of a ≡ layout_answer (message_refusal s) s
    → (message_refusal s ≡ 0) × (layout_of s ≡ l.layout)
unfolding layout_answer
found s a l e h =
    let q : message_refusal s ≡ 0 =
    sym (ap (λ (p : LayoutAnswer). p.refusal) h) ∙ ap (λ (v : Result Legal Refusal). (read_of v).refusal) e in
    let k : (read_of a).layout ≡ cond (eqb (message_refusal s) 0) (layout_of s) no_layout =
    ap (λ (p : LayoutAnswer). p.layout) h in
    (q, sym (ap (λ (v : Result Legal Refusal). (read_of v).layout) (sym e) ∙ k ∙ rw (eq-eqb (message_refusal s) 0 q) refl))

-- an answer without: the message is refused
pub not_found : (s : List ℕ) (a : Result Legal Refusal) (q : Refusal) → a ≡ Err q → read_of a ≡ layout_answer (message_refusal s) s
    → message_refusal s ≡ 0 → ⊥
unfolding layout_answer
not_found s a q e h z =
    let n : message_refusal s ≡ number_of q =
    sym (ap (λ (p : LayoutAnswer). p.refusal) h) ∙ ap (λ (v : Result Legal Refusal). (read_of v).refusal) e in
    omega (arith, numbered q)

-- a fit message has a legal layout and the length that it gives
pub fit_named : (s : List ℕ) (l : Layout) → message_refusal s ≡ 0 → layout_of s ≡ l
    → (legal l ≡ true) × (length s ≡ message_bytes l)
fit_named s l e k =
    let f : Fit s = fit s e in
    (sym (ap legal k) ∙ f.is_legal, f.is_long ∙ ap message_bytes k)

-- a refusal answers its number alone
pub refused_answer : (n q : ℕ) (s : List ℕ) → n ≡ suc q → record { refusal = suc q; layout = no_layout } ≡ layout_answer n s
unfolding layout_answer
refused_answer n q s e = rw (e, eqb-suc-zero q) refl

-- and a fit message its layout
pub fit_answer : (n : ℕ) (s : List ℕ) (l : Layout) → layout_of s ≡ l → n ≡ 0
    → record { refusal = 0; layout = l } ≡ layout_answer n s
unfolding layout_answer
fit_answer n s l q e = rw (e, q) refl

-- ---- what reading refuses
pub all_numbered : (s : List ℕ) → Numbered (message_checks s)
unfolding message_checks
all_numbered s = omega arith

module _ (s o : List ℕ) where
  -- what the message is refused for, reading refuses
  pub refuses_message : (message_refusal s ≡ 0 → ⊥) → read_refusal s (length o) ≡ message_refusal s
  unfolding read_refusal message_refusal
  refuses_message n = refused_before (message_checks s) ((10, ltb (length o) (length (numbers_read s))) ∷ []) n

  by-target : message_refusal s ≡ 0
      → read_refusal s (length o) ≡ first_refusal ((10, ltb (length o) (length (numbers_read s))) ∷ [])
  unfolding read_refusal message_refusal
  by-target e = passed_before (message_checks s) ((10, ltb (length o) (length (numbers_read s))) ∷ []) (all_numbered s) e

  pub refuses_target : message_refusal s ≡ 0 → length o < length (numbers_read s) → read_refusal s (length o) ≡ 10
  unfolding first_refusal
  refuses_target e h = by-target e ∙ rw (lt-ltb (length o) (length (numbers_read s)) h) refl

  pub refuses_nothing : message_refusal s ≡ 0 → length (numbers_read s) ≤ length o → read_refusal s (length o) ≡ 0
  unfolding first_refusal
  refuses_nothing e h = by-target e ∙ rw (le-ltb (length o) (length (numbers_read s)) h) refl

  -- the target of a refusal is unchanged
  pub untouched : (read_refusal s (length o) ≡ 0 → ⊥) → o ≡ read_target s o
  unfolding read_target
  untouched n = rw (ne_eqb (read_refusal s (length o)) 0 n) refl

  touched : read_refusal s (length o) ≡ 0 → numbers_read s ++ drop (length (numbers_read s)) o ≡ read_target s o
  unfolding read_target
  touched e = rw (eq-eqb (read_refusal s (length o)) 0 e) refl

-- how many numbers a message of this layout has
pub numbers-count : (s : List ℕ) (l : Layout) → layout_of s ≡ l → length (numbers_read s) ≡ l.l1 + l.l2 + l.r
unfolding numbers_read
numbers-count s l e =
    let k : Layout = layout_of s in
    length-append (read_block_sums k s ++ read_string_sums k s) (read_checks k s)
    ∙ omega (
      arith,
      length-append (read_block_sums k s) (read_string_sums k s),
      block_count k s,
      string_count k s,
      check-count k s,
      ap (λ (m : Layout). m.l1) e,
      ap (λ (m : Layout). m.l2) e,
      ap (λ (m : Layout). m.r) e,
    )

-- and which they are
numbers_are : (s : List ℕ) (l : Layout) → layout_of s ≡ l
    → read_block_sums l s ++ read_string_sums l s ++ read_checks l s ≡ numbers_read s
unfolding numbers_read
numbers_are s l e = ap (λ (m : Layout). read_block_sums m s ++ read_string_sums m s ++ read_checks m s) (sym e)

-- the target with the numbers of a fit message at its start
pub numbers-written : (s o q : List ℕ) (l : Layout) → layout_of s ≡ l → read_refusal s (length o) ≡ 0
    → q ≡ read_block_sums l s ++ read_string_sums l s ++ read_checks l s ++ drop (l.l1 + l.l2 + l.r) o → q ≡ read_target s o
numbers-written s o q l k e h =
    h ∙ ap (λ (t : List ℕ). t ++ drop (l.l1 + l.l2 + l.r) o) (numbers_are s l k)
    ∙ ap (λ (n : ℕ). numbers_read s ++ drop n o) (sym (numbers-count s l k)) ∙ touched s o e
