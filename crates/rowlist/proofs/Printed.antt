-- What is printed for what listing answers: the rows in the list slice, and the numbers of refusals. Assumes nothing.
use Prim.Native.Nat.{ℕ, ◌+◌, ◌-◌, ◌*◌, ◌<◌, ◌≤◌}
use mathlib.Core.Path.{◌≡◌, refl, sym, ap, ap₂, ◌∙◌}
use mathlib.Core.Bool.{false, cond}
use mathlib.Core.List.{List, map}
use native.Mathlib.Nat.{mul-zero, mul-one, mul-add, mul_assoc, mul-le-mul_left, mul-le-mul_right}
use native.Mathlib.Omega.{arith}
use Rattle.std.specs.Prelude.{Result, Ok, Err}
use borrow.Author.Tests.{ne_eqb}
use borrow.Author.Rules.{part_to_end}
use lib.Dec.{eqb}
use lib.ListN.{length, get_or, take, drop, length-map, get_or-eq_default}
use Rattle.refusal.specs.Refusal.{number_of}
use Rattle.refusal.specs.declared.Refusal.TheVariants.{NoMessage, Version, Layout as LayoutRefusal, MessageLength, Sum, SpareBit, Losses, Packing, ListFull, ShortTarget}
use Rattle.refusal.specs.declared.Refusal.{Refusal}
use Rattle.refusal.proofs.Laws.{numbered}
use Rattle.bits.specs.Bits.{cut, bytes_for, pack, unpack}
use Rattle.rows.specs.Slice.{flat}
use Rattle.rows.proofs.Packed.{packed-wide}
use Rattle.rows.proofs.Slice.{cut-flat}
use Rattle.message.specs.Read.{layout_of}
use Rattle.message.proofs.Messages.{fit}
use Rattle.consistent.specs.Consistent.{bits_of}
use Rattle.consistent.specs.List.{room, wanted, list_refusal}
use Rattle.consistent.proofs.Consistent.{list_exact}
use Rattle.consistent.proofs.List.{message_passed}
use Rattle.lister.specs.Answer.{listed_of}
use Rattle.lister.proofs.Demand3.{Promised, number_is, not_refused, input_fit, all_fit, count_is, rows_written}
use Rattle.lister.proofs.Lent.{row_low, room_fits}
use Rattle.rowtext.specs.Input.{message_in, bits_in, row_in, Split}
use Rattle.rowtext.specs.Text.{count_text, refused_text}
use Rattle.rowlist.specs.Output.{list_bytes, longest_text, printed}

-- ---- the bytes of a row
module _ (s : List ℕ) where
  pub no_row : length s < 8 → 0 ≡ bytes_for (bits_of s)
  unfolding layout_of
  no_row h = rw (get_or-eq_default s 0 {n = 7} (omega arith), mul-zero) refl

  pub row-size : bytes_for (get_or s 5 0 * get_or s 6 0 * get_or s 7 0) ≡ bytes_for (bits_of s)
  unfolding layout_of
  row-size = refl

-- ---- a count
module _ (s row : List ℕ) (m : ℕ) (slice : List ℕ) (r : Result ℕ Refusal) (exit : List ℕ) (p : Promised s row m slice r exit)
    (n : ℕ) (e : r ≡ Ok n) where
  abbrev w : ℕ
  w = bytes_for (bits_of s)

  -- the rows in the slice are those to be listed
  rows-held : cut n w exit ≡ map pack (wanted s row m)
  unfolding wanted
  rows-held =
      let rows = map pack (wanted s row m) in
      let c : n ≡ length rows = count_is s row m slice r exit p n e ∙ sym (length-map (wanted s row m) pack) in
      let wide = packed-wide (bits_of s) (wanted s row m) (λ x h. ((list_exact s m (take m (unpack row)) x).0 h).0) in
      ap₂ (λ (k : ℕ) (t : List ℕ). cut k w t) c (rows_written s row m slice r exit p n e)
      ∙ cut-flat w rows (drop (length (flat rows)) slice) wide

  -- they fit the slice
  rows_fit : n * w ≤ length slice
  unfolding room
  rows_fit =
      let c = count_is s row m slice r exit p n e in
      let f : n ≤ room s (length slice) = omega (arith, all_fit s row m slice r exit p n e) in
      omega (arith, mul-le-mul_right w f, room_fits (bits_of s) (length slice))

  -- and a row has at least one byte, so they are no more than its bytes
  few-rows : n ≤ length slice
  few-rows =
      let f = fit s (message_passed s row m (input_fit s row m slice r exit p n e)) in
      let k : 1 ≤ bits_of s = row_low (layout_of s) f.is_legal in
      let o : 1 ≤ w = omega arith in
      omega (arith, rows_fit, mul-le-mul_left n o, mul-one n)

-- ---- what is printed
-- what listing promises for the parts of the input s
abbrev Asked : (s slice : List ℕ) (r : Result ℕ Refusal) (exit : List ℕ) → Type 0
Asked s slice r exit = Promised (message_in s) (row_in s) (bits_in s) slice r exit

module _ (s slice : List ℕ) (r : Result ℕ Refusal) (exit : List ℕ) (p : Asked s slice r exit) (l : length slice ≡ list_bytes) where
  abbrev rows : List (List ℕ)
  rows = map pack (wanted (message_in s) (row_in s) (bits_in s))

  abbrev first-refusal : ℕ → ℕ
  first-refusal = list_refusal (message_in s) (row_in s) (bits_in s)

  printed-by : (q : ℕ) → first-refusal (length slice) ≡ q → cond (eqb q 0) (count_text rows) (refused_text q) ≡ printed s
  unfolding printed
  printed-by q e =
      ap (λ (k : ℕ). cond (eqb k 0) (count_text rows) (refused_text k)) (sym (ap first-refusal (sym l) ∙ e))

  -- a count
  count-printed : (n : ℕ) → r ≡ Ok n → count_text (cut n (bytes_for (bits_of (message_in s))) exit) ≡ printed s
  count-printed n e =
      ap count_text (rows-held (message_in s) (row_in s) (bits_in s) slice r exit p n e)
      ∙ printed-by 0 (not_refused (message_in s) (row_in s) (bits_in s) slice r exit p n e)

  -- a refusal
  refused-printed : (q : Refusal) → r ≡ Err q → refused_text (number_of q) ≡ printed s
  refused-printed q e =
      let n =
      sym (number_is (message_in s) (row_in s) (bits_in s) slice r exit p) ∙ ap (λ (v : Result ℕ Refusal). (listed_of v).refusal) e in
      let z : eqb (number_of q) 0 ≡ false = ne_eqb (number_of q) 0 (λ z. omega (arith, numbered q)) in
      rw z at (printed-by (number_of q) n)

-- n lines of w bytes each, after the header
text_fits : (n w : ℕ) → n * w ≤ list_bytes → n ≤ list_bytes → 12 + n * (w * 2 + 1) ≤ longest_text
text_fits n w h k = omega (arith, mul-add n (w * 2) 1, mul-one n, sym (mul_assoc n w 2))

-- what an answer for the input s says of what is printed: the rows of a count stand in the slice, and fit what is put out
pub record Answers (s : List ℕ) (r : Result ℕ Refusal) (exit : List ℕ) : Type 0 where
  pub rows : (n : ℕ) → r ≡ Ok n → count_text (cut n (bytes_for (bits_of (message_in s))) exit) ≡ printed s
  pub fits : (n : ℕ) → r ≡ Ok n → n * bytes_for (bits_of (message_in s)) ≤ list_bytes
  pub few : (n : ℕ) → r ≡ Ok n → n ≤ list_bytes
  pub short : (n : ℕ) → r ≡ Ok n → 12 + n * (bytes_for (bits_of (message_in s)) * 2 + 1) ≤ longest_text
  pub refused : (q : Refusal) → r ≡ Err q → refused_text (number_of q) ≡ printed s

-- by the contract of listing, with the parts of the input as the code lends them
pub answers : (s : List ℕ) (from to m row : ℕ) (slice exit : List ℕ) (r : Result ℕ Refusal) → length slice ≡ list_bytes
    → Split s from to m row
    → Promised (take (to - from) (drop from s)) (take (length s - row) (drop row s)) m slice r exit → Answers s r exit
answers s from to m row slice exit r l t h =
    let p : Asked s slice r exit = rw (t.message, part_to_end s row, t.rest, t.bits) at h in
    record {
      rows = count-printed s slice r exit p l;
      fits = fits_in p;
      few = few-in p;
      short = λ n e. text_fits n (bytes_for (bits_of (message_in s))) (fits_in p n e) (few-in p n e);
      refused = refused-printed s slice r exit p l;
    }
  where
    fits_in : Asked s slice r exit → (n : ℕ) → r ≡ Ok n → n * bytes_for (bits_of (message_in s)) ≤ list_bytes
    fits_in p n e = rw l at (rows_fit (message_in s) (row_in s) (bits_in s) slice r exit p n e)

    few-in : Asked s slice r exit → (n : ℕ) → r ≡ Ok n → n ≤ list_bytes
    few-in p n e = rw l at (few-rows (message_in s) (row_in s) (bits_in s) slice r exit p n e)

-- no refusal has a long number
pub number_short : (q : Refusal) → number_of q ≤ 10
number_short NoMessage = omega arith
number_short Version = omega arith
number_short LayoutRefusal = omega arith
number_short MessageLength = omega arith
number_short Sum = omega arith
number_short SpareBit = omega arith
number_short Losses = omega arith
number_short Packing = omega arith
number_short ListFull = omega arith
number_short ShortTarget = omega arith
