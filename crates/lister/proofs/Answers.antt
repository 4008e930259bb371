-- What listing answers and leaves in the slice: for the rows that a search found, for a refusal by 1 to 8, and where no
-- such refusal applies. Assumes nothing.
use Prim.Native.Nat.{ℕ, ◌*◌, ◌≤◌}
use mathlib.Core.Path.{◌≡◌, refl, sym, ap, ap₂, ◌∙◌}
use mathlib.Core.Bool.{Bool, true, false, cond}
use mathlib.Core.List.{List, ◌++◌, map}
use native.Mathlib.Omega.{arith}
use borrow.Author.Tests.{ltb-false, ne_eqb}
use lib.Dec.{eqb, ltb}
use lib.ListN.{length, take, drop, length-map}
use lib.Seq.{take_all}
use Rattle.refusal.specs.Refusal.{first_refusal}
use Rattle.refusal.proofs.Laws.{Numbered, refused_before, passed_before}
use Rattle.bits.specs.Bits.{AllBytes, bytes_for, pack, unpack}
use Rattle.rows.specs.Order.{Mem, Row}
use Rattle.rows.proofs.Held.{take_mem}
use Rattle.rows.proofs.Order.{kept_row}
use Rattle.rows.proofs.Packed.{packed-wide}
use Rattle.rows.proofs.Slice.{length-flat}
use Rattle.message.specs.Layout.{row_bits}
use Rattle.message.specs.Read.{layout_of, message_checks, message_refusal, numbers_read}
use Rattle.message.specs.declared.Layout.{Layout}
use Rattle.message.proofs.Answers.{all_numbered}
use Rattle.consistent.specs.Consistent.{bits_of, candidate}
use Rattle.consistent.specs.List.{ListAnswer, room, wanted, row_checks, room_check, input_checks, list_refusal, list_answer, written_rows, list_slice}
use Rattle.consistent.proofs.List.{answer_is, slice_is}
use Rattle.found.specs.Found.{all_sent, Listed}
use Rattle.lister.specs.Rows.{row_refusal, room_for, rows_answer, first_rows, rows_slice}
use Rattle.lister.proofs.Read.{sent-wanted}
use Rattle.lister.proofs.Row.{row-checks}

-- ---- the rows that a search found
module _ (l : Layout) (numbers y : List ℕ) {cap : ℕ} {entry exit : List ℕ} {d : ℕ} {o : Bool}
    (f : Listed l numbers y cap entry exit d o) where
  abbrev found : List (List ℕ)
  found = all_sent l numbers y

  -- there are more than fit
  pub more-found : o ≡ true → record { refusal = 9; count = 0 } ≡ rows_answer cap found
  more-found e = rw (sym f.more ∙ e) refl

  -- all fit
  pub all_found : o ≡ false → record { refusal = 0; count = d } ≡ rows_answer cap found
  all_found e =
      let none : ltb cap (length found) ≡ false = sym f.more ∙ e in
      let n : d ≡ length found = f.count ∙ ap length (take_all cap found (ltb-false cap (length found) none)) in
      rw (none, n) refl

  -- the bytes of the rows written, each of which is a row of the layout
  each : (x : List ℕ) → Mem x (take cap found) → Row (row_bits l) x
  each x m = (kept_row (row_bits l) (candidate l numbers y) x (take_mem cap x found m)).0

  bytes-written : length (first_rows cap found) ≡ d * bytes_for (row_bits l)
  unfolding first_rows
  bytes-written =
      length-flat (bytes_for (row_bits l)) (map pack (take cap found)) (packed-wide (row_bits l) (take cap found) each)
      ∙ ap (λ (n : ℕ). n * bytes_for (row_bits l)) (length-map (take cap found) pack ∙ sym f.count)

  -- the slice
  pub slice-found : exit ≡ rows_slice cap found entry
  unfolding rows_slice first_rows
  slice-found = f.slice ∙ ap (λ (n : ℕ). first_rows cap found ++ drop n entry) (sym bytes-written)

-- the same by another name of the received bits and of the room
pub searched : (l : Layout) (numbers y : List ℕ) {z : List ℕ} {cap room : ℕ} {entry exit : List ℕ} {d : ℕ} {o : Bool}
    → Listed l numbers y cap entry exit d o → y ≡ z → cap ≡ room → Listed l numbers z room entry exit d o
searched l numbers y f e h = rw (← e, ← h) f

-- ---- the checks
module _ (s row : List ℕ) (m : ℕ) where
  -- what the message is refused for, listing refuses
  pub message_decides : (message_refusal s ≡ 0 → ⊥) → first_refusal (input_checks s row m) ≡ message_refusal s
  unfolding input_checks message_refusal
  message_decides n = refused_before (message_checks s) (row_checks s row m) n

  -- where the message is fit, the row decides
  pub row_decides : message_refusal s ≡ 0 → (n : ℕ) → bits_of s ≡ n
      → first_refusal (input_checks s row m) ≡ row_refusal n row m
  unfolding input_checks message_refusal
  row_decides e n k = passed_before (message_checks s) (row_checks s row m) (all_numbered s) e ∙ row-checks s row m n k

  numbered-input : Numbered (input_checks s row m)
  unfolding input_checks
  numbered-input = omega arith

  -- a refusal by 1 to 8 answers its number alone, and leaves the slice as it was
  pub refused_listing : (slice : List ℕ) (q : ℕ) → 1 ≤ q → first_refusal (input_checks s row m) ≡ q
      → (record { refusal = q; count = 0 } ≡ list_answer s row m (length slice)) × (slice ≡ list_slice s row m slice)
  unfolding list_refusal
  refused_listing slice q h e =
      let before = refused_before (input_checks s row m) (room_check s row m (length slice)) (λ z. omega arith) in
      let r : list_refusal s row m (length slice) ≡ q = before ∙ e in
      let n : eqb q 0 ≡ false = ne_eqb q 0 (λ z. omega arith) in
      (sym (answer_is s row m (length slice) q r ∙ rw n refl), sym (slice_is s row m slice q e ∙ rw n refl))

  -- where no such refusal applies, the rows to be listed decide
  module _ (slice : List ℕ) (e : first_refusal (input_checks s row m) ≡ 0) where
    abbrev cap : ℕ
    cap = room s (length slice)

    pub by_room : list_refusal s row m (length slice) ≡ cond (ltb cap (length (wanted s row m))) 9 0
    unfolding list_refusal room_check first_refusal
    by_room = passed_before (input_checks s row m) (room_check s row m (length slice)) numbered-input e

    rows-answer : rows_answer cap (wanted s row m) ≡ list_answer s row m (length slice)
    rows-answer = go (ltb cap (length (wanted s row m))) refl
      where
        go : (t : Bool) → ltb cap (length (wanted s row m)) ≡ t
            → rows_answer cap (wanted s row m) ≡ list_answer s row m (length slice)
        go true h = rw h (sym (answer_is s row m (length slice) 9 (by_room ∙ rw h refl)))
        go false h = rw h (sym (answer_is s row m (length slice) 0 (by_room ∙ rw h refl)))

    rows-slice : rows_slice cap (wanted s row m) slice ≡ list_slice s row m slice
    unfolding rows_slice first_rows written_rows
    rows-slice = sym (slice_is s row m slice 0 e)

-- what is answered and left for the rows that are consistent with the numbers of a fit message and a fit row
module _ (s row : List ℕ) (m : ℕ) (l : Layout) (numbers : List ℕ) (b : AllBytes s) (e : message_refusal s ≡ 0)
    (k : layout_of s ≡ l) (n : numbers ≡ numbers_read s) (h : m ≤ length row * 8) where
  abbrev sent : List (List ℕ)
  sent = all_sent l numbers (take m (unpack row))

  sent-are : sent ≡ wanted s row m
  sent-are = ap₂ (λ (q : Layout) (t : List ℕ). all_sent q t (take m (unpack row))) (sym k) n ∙ sent-wanted s row m e h b

  room-is : (slice : ℕ) → room_for (row_bits l) slice ≡ room s slice
  unfolding room
  room-is slice = ap (λ (q : Layout). room_for (row_bits q) slice) (sym k)

  pub rows-listed : (slice : List ℕ) → first_refusal (input_checks s row m) ≡ 0 → (a : ListAnswer) (exit : List ℕ)
      → a ≡ rows_answer (room_for (row_bits l) (length slice)) sent
      → exit ≡ rows_slice (room_for (row_bits l) (length slice)) sent slice
      → (a ≡ list_answer s row m (length slice)) × (exit ≡ list_slice s row m slice)
  rows-listed slice z a exit p q = (
    p ∙ ap₂ rows_answer (room-is (length slice)) sent-are ∙ rows-answer s row m slice z,
    q ∙ ap₂ (λ (c : ℕ) (xs : List (List ℕ)). rows_slice c xs slice) (room-is (length slice)) sent-are
        ∙ rows-slice s row m slice z,
  )
