-- Listing: which checks a call passes, and what it answers and writes where all rows fit. Assumes nothing.
use Prim.Native.Nat.{ℕ, ◌-◌, ◌≤◌}
use mathlib.Core.Path.{◌≡◌, refl, sym, ap, ◌∙◌}
use mathlib.Core.Bool.{true, cond}
use mathlib.Core.List.{List, ◌++◌, map}
use native.Mathlib.Omega.{arith}
use borrow.Author.Tests.{le-ltb}
use lib.Dec.{eqb}
use lib.ListN.{length, drop}
use lib.Seq.{take_all}
use Rattle.refusal.specs.Refusal.{first_refusal}
use Rattle.refusal.proofs.Laws.{Numbered, passed_before, passed_first}
use Rattle.bits.specs.Bits.{AllBits, pack, fits}
use Rattle.bits.proofs.Packing.{unpack-pack}
use Rattle.rows.specs.Slice.{flat}
use Rattle.message.specs.Read.{message_checks, message_refusal}
use Rattle.message.proofs.Answers.{all_numbered}
use Rattle.consistent.specs.Consistent.{most_losses, bits_of, the_list}
use Rattle.consistent.specs.List.{room, wanted, row_checks, room_check, input_checks, list_refusal, list_answer, written_rows, list_slice}

-- the bits that are packed are those that are listed for
pub wanted-packed : (s y : List ℕ) → AllBits y → wanted s (pack y) (length y) ≡ the_list s (length y) y
unfolding wanted
wanted-packed s y a = ap (the_list s (length y)) (unpack-pack y a)

input_numbered : (s row : List ℕ) (m : ℕ) → Numbered (input_checks s row m)
unfolding input_checks
input_numbered s row m = omega arith

module _ (s row : List ℕ) (m : ℕ) where
  input-is : first_refusal (input_checks s row m) ≡ first_refusal (message_checks s ++ row_checks s row m)
  unfolding input_checks
  input-is = refl

  list-is : (slice : ℕ) → list_refusal s row m slice ≡ first_refusal (input_checks s row m ++ room_check s row m slice)
  unfolding list_refusal
  list-is slice = refl

  message-is : message_refusal s ≡ first_refusal (message_checks s)
  unfolding message_refusal
  message-is = refl

  -- a call that is not refused by 1 to 8 has a fit message
  pub message_passed : first_refusal (input_checks s row m) ≡ 0 → message_refusal s ≡ 0
  message_passed e = message-is ∙ passed_first (message_checks s) (row_checks s row m) (sym input-is ∙ e)

  -- a call that is not refused is not refused by 1 to 8
  pub input_passed : (slice : ℕ) → list_refusal s row m slice ≡ 0 → first_refusal (input_checks s row m) ≡ 0
  input_passed slice e = passed_first (input_checks s row m) (room_check s row m slice) (sym (list-is slice) ∙ e)

  rows_pass : m ≤ bits_of s → bits_of s - m ≤ most_losses → fits m row ≡ true → first_refusal (row_checks s row m) ≡ 0
  unfolding first_refusal row_checks
  rows_pass n k f = rw (le-ltb (bits_of s) m n, le-ltb most_losses (bits_of s - m) k, f) refl

  -- a fit message and a fit row with at most 12 bits lost pass checks 1 to 8
  pub input_passes : message_refusal s ≡ 0 → m ≤ bits_of s → bits_of s - m ≤ most_losses → fits m row ≡ true
      → first_refusal (input_checks s row m) ≡ 0
  input_passes e n k f =
      input-is ∙ passed_before (message_checks s) (row_checks s row m) (all_numbered s) (sym message-is ∙ e)
      ∙ rows_pass n k f

  room-passes : (slice : ℕ) → length (wanted s row m) ≤ room s slice → first_refusal (room_check s row m slice) ≡ 0
  unfolding first_refusal room_check
  room-passes slice h = rw (le-ltb (room s slice) (length (wanted s row m)) h) refl

  -- the rows written, where all fit
  all-written : (slice : ℕ) → length (wanted s row m) ≤ room s slice
      → written_rows s row m slice ≡ flat (map pack (wanted s row m))
  unfolding written_rows
  all-written slice h = ap (λ (xs : List (List ℕ)). flat (map pack xs)) (take_all (room s slice) (wanted s row m) h)

  -- what the slice holds after refusals 1 to 8, or none of them
  pub slice_is : (slice : List ℕ) (q : ℕ) → first_refusal (input_checks s row m) ≡ q
      → list_slice s row m slice ≡ cond (eqb q 0)
      (written_rows s row m (length slice) ++ drop (length (written_rows s row m (length slice))) slice) slice
  unfolding list_slice
  slice_is slice q e =
      ap (λ (v : ℕ). cond (eqb v 0)
      (written_rows s row m (length slice) ++ drop (length (written_rows s row m (length slice))) slice) slice) e

  -- what is answered for a refusal, or for none
  pub answer_is : (slice q : ℕ) → list_refusal s row m slice ≡ q
      → list_answer s row m slice ≡ record { refusal = q; count = cond (eqb q 0) (length (wanted s row m)) 0 }
  unfolding list_answer
  answer_is slice q e = ap (λ (v : ℕ). record { refusal = v; count = cond (eqb v 0) (length (wanted s row m)) 0 }) e

  -- where all rows fit
  module _ (slice : List ℕ) (e : first_refusal (input_checks s row m) ≡ 0)
      (h : length (wanted s row m) ≤ room s (length slice)) where
    list-passes : list_refusal s row m (length slice) ≡ 0
    list-passes =
        list-is (length slice)
        ∙ passed_before (input_checks s row m) (room_check s row m (length slice)) (input_numbered s row m) e
        ∙ room-passes (length slice) h

    -- listing answers their number
    pub list_counts : list_answer s row m (length slice) ≡ record { refusal = 0; count = length (wanted s row m) }
    list_counts = answer_is (length slice) 0 list-passes

    -- and writes them all
    pub list_writes : list_slice s row m slice
        ≡ flat (map pack (wanted s row m)) ++ drop (length (flat (map pack (wanted s row m)))) slice
    list_writes = slice_is slice 0 e ∙ ap (λ (o : List ℕ). o ++ drop (length o) slice) (all-written (length slice) h)
