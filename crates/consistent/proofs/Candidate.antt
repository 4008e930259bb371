-- A candidate's numbers, compared with those of a message that was read. Assumes nothing.
use Prim.Native.Nat.{ℕ, ◌+◌, ◌-◌}
use mathlib.Core.Path.{◌≡◌, refl, sym, ap, ◌∙◌}
use mathlib.Core.Bool.{Bool, true, false, ◌&&◌}
use mathlib.Core.List.{List, ◌++◌, append_assoc}
use native.Mathlib.Omega.{arith}
use borrow.Author.Tests.{eq-eqb}
use lib.ListN.{length, take, drop, take-append-drop}
use lib.Seq.{take_at, drop_at, length-take-le}
use Rattle.bits.specs.Bits.{AllBytes, same}
use Rattle.bits.proofs.Laws.{both_ways, same_eq, same_refl, same-append}
use Rattle.rows.specs.Deletion.{comes_from}
use Rattle.rows.specs.Order.{Row}
use Rattle.message.specs.Layout.{legal, row_bits}
use Rattle.message.specs.Message.{block_sums, string_sums, sums, checks, encode, message}
use Rattle.message.specs.Read.{layout_of, read_block_sums, read_string_sums, read_checks, message_refusal, numbers_read}
use Rattle.message.specs.declared.Layout.{Layout}
use Rattle.message.proofs.Answers.{fit_named}
use Rattle.message.proofs.Cutting.{length_block_sums, length_string_sums}
use Rattle.message.proofs.Messages.{encode-read}
use Rattle.message.proofs.Numbers.{block_count, string_count}
use Rattle.message.proofs.Roundtrip.{message-reads}
use Rattle.message.proofs.RowSums.{length-sums}
use Rattle.consistent.specs.Consistent.{bits_of, yields, consistent, candidate}

-- ---- what yields a message
-- two joined lists whose first parts are of one length are equal part by part
part_by_part : (a b c d : List ℕ) → length a ≡ length c → a ++ b ≡ c ++ d → (a ≡ c) × (b ≡ d)
part_by_part a b c d n e = (
  sym (take_at a b (length c) n) ∙ ap (take (length c)) e ∙ take_at c d (length c) refl,
  sym (drop_at a b (length c) n) ∙ ap (drop (length c)) e ∙ drop_at c d (length c) refl,
)

module _ (l : Layout) (x s : List ℕ) where
  -- the numbers of the row, and those that are read of the message
  abbrev own : List ℕ
  own = block_sums l x ++ string_sums l x ++ checks l x

  abbrev given : List ℕ
  given = read_block_sums l s ++ read_string_sums l s ++ read_checks l s

  -- the row's own message has the row's numbers
  numbers_of : legal l ≡ true → Row (row_bits l) x → message l x ≡ s → own ≡ given
  numbers_of g r e =
      let m = message-reads l x g r.1 r.0 in
      let a : block_sums l x ≡ read_block_sums l s = sym m.block_sums_are ∙ ap (read_block_sums l) e in
      let b : string_sums l x ≡ read_string_sums l s = sym m.string_sums_are ∙ ap (read_string_sums l) e in
      let c : checks l x ≡ read_checks l s = sym m.checks ∙ ap (read_checks l) e in
      rw (a, b, c) refl

  -- and a row with the message's numbers has that message
  of-numbers : own ≡ given → message l x ≡ encode l (read_block_sums l s) (read_string_sums l s) (read_checks l s)
  unfolding message
  of-numbers e =
      let n : length (block_sums l x) ≡ length (read_block_sums l s) = length_block_sums l x ∙ sym (block_count l s) in
      let m : length (string_sums l x) ≡ length (read_string_sums l s) = length_string_sums l x ∙ sym (string_count l s) in
      let p =
      part_by_part (block_sums l x) (string_sums l x ++ checks l x) (read_block_sums l s)
      (read_string_sums l s ++ read_checks l s) n
      (sym (append_assoc (block_sums l x) (string_sums l x) (checks l x)) ∙ e
      ∙ append_assoc (read_block_sums l s) (read_string_sums l s) (read_checks l s)) in
      let q = part_by_part (string_sums l x) (checks l x) (read_string_sums l s) (read_checks l s) m p.1 in
      rw (p.0, q.0, q.1) refl

  tested : AllBytes s → message_refusal s ≡ 0 → layout_of s ≡ l → Row (row_bits l) x → same (message l x) s ≡ same own given
  tested b e k r =
      both_ways (same (message l x) s) (same own given)
      (λ h. ap (same own) (sym (numbers_of (fit_named s l e k).0 r (same_eq (message l x) s h))) ∙ same_refl own)
      (λ h. ap (λ (t : List ℕ). same t s) (of-numbers (same_eq own given h) ∙ read_again) ∙ same_refl s)
    where
      read_again : encode l (read_block_sums l s) (read_string_sums l s) (read_checks l s) ≡ s
      read_again =
          ap (λ (m : Layout). encode m (read_block_sums m s) (read_string_sums m s) (read_checks m s)) (sym k)
          ∙ encode-read s b e

-- a row yields a fit message exactly when its sums and checks are the numbers that are read of it
pub yields-numbers : (s x : List ℕ) → AllBytes s → message_refusal s ≡ 0 → Row (row_bits (layout_of s)) x
    → yields s x ≡ same (block_sums (layout_of s) x ++ string_sums (layout_of s) x ++ checks (layout_of s) x) (numbers_read s)
yields-numbers s x b e r =
    yields-is ∙ tested (layout_of s) x s b e refl r ∙ ap (same (own (layout_of s) x s)) (sym numbers_are)
  where
    yields-is : yields s x ≡ same (message (layout_of s) x) s
    yields-is = unfold yields in refl

    numbers_are : numbers_read s ≡ given (layout_of s) x s
    numbers_are = unfold numbers_read in refl

-- ---- the numbers in two parts, as the code has them
module _ (l : Layout) (x numbers : List ℕ) (h : length numbers ≡ l.l1 + l.l2 + l.r) where
  in_parts : same (sums l x ++ checks l x) numbers
      ≡ (same (sums l x) (take (l.l1 + l.l2) numbers) && same (checks l x) (drop (l.l1 + l.l2) numbers))
  in_parts =
      let n : length (take (l.l1 + l.l2) numbers) ≡ l.l1 + l.l2 =
      length-take-le (l.l1 + l.l2) numbers (omega arith) in
      ap (same (sums l x ++ checks l x)) (sym (take-append-drop (l.l1 + l.l2) numbers))
      ∙ same-append (sums l x) (take (l.l1 + l.l2) numbers) (checks l x) (drop (l.l1 + l.l2) numbers)
      (length-sums l x ∙ sym n)

  -- other sums settle it
  pub sums_differ : same (sums l x) (take (l.l1 + l.l2) numbers) ≡ false → false ≡ same (sums l x ++ checks l x) numbers
  sums_differ e = sym (in_parts ∙ ap (λ (b : Bool). b && same (checks l x) (drop (l.l1 + l.l2) numbers)) e)

  -- where the sums are the same, the checks decide
  pub sums_same : same (sums l x) (take (l.l1 + l.l2) numbers) ≡ true
      → same (checks l x) (drop (l.l1 + l.l2) numbers) ≡ same (sums l x ++ checks l x) numbers
  sums_same e = sym (in_parts ∙ ap (λ (b : Bool). b && same (checks l x) (drop (l.l1 + l.l2) numbers)) e)

-- ---- the whole test
-- for a fit message, its numbers and a row of its length, the test of a candidate is that of the definition
pub candidate_is : (s y x : List ℕ) → AllBytes s → message_refusal s ≡ 0 → Row (bits_of s) x
    → candidate (layout_of s) (numbers_read s) y x ≡ consistent s (length y) y x
unfolding candidate consistent
candidate_is s y x b e r =
    rw (eq-eqb (length x) (bits_of s) r.0, ← r.0, yields-numbers s x b e r) refl

-- the two parts of the test
pub comes_not_candidate : (l : Layout) (numbers y x : List ℕ) → comes_from x (length x - length y) y ≡ false
    → false ≡ candidate l numbers y x
unfolding candidate
comes_not_candidate l numbers y x e = rw e refl

pub comes-candidate : (l : Layout) (numbers y x : List ℕ) → comes_from x (length x - length y) y ≡ true
    → same (block_sums l x ++ string_sums l x ++ checks l x) numbers ≡ candidate l numbers y x
unfolding candidate
comes-candidate l numbers y x e = rw e refl
