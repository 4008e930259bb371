-- What reading a message gives a search: numbers that fit the local array, each in range, and with a fit row all that a
-- search is to be given. Assumes nothing.
use Prim.Native.Nat.{ℕ, zero, suc, ◌+◌, ◌-◌, ◌*◌, ◌<◌, ◌≤◌}
use mathlib.Core.Path.{◌≡◌, refl, sym, ap, ◌∙◌}
use mathlib.Core.Bool.{true, cond}
use mathlib.Core.List.{List, [], ◌∷◌, ◌++◌, append_assoc}
use native.Mathlib.Nat.{suc-mul, mul_comm}
use native.Mathlib.Omega.{arith}
use Rattle.std.specs.Prelude.{Result, Err}
use lib.Dec.{eqb}
use lib.ListN.{length, get_or, take, drop, get_or-append}
use lib.Seq.{take_at, get_or-append-add}
use Rattle.refusal.specs.Refusal.{number_of}
use Rattle.refusal.specs.declared.Refusal.{Refusal}
use Rattle.bits.specs.Bits.{AllBytes, unpack}
use Rattle.bits.proofs.Laws.{bits-take, bits-unpack}
use Rattle.rows.specs.Rows.{all_rows}
use Rattle.rows.proofs.Held.{keep_same}
use Rattle.rows.proofs.Order.{rows-sound}
use Rattle.message.specs.Encoding.{AtMost}
use Rattle.message.specs.Layout.{legal, row_bits, block_bits, string_bits}
use Rattle.message.specs.Message.{most_numbers}
use Rattle.message.specs.Read.{LayoutAnswer, read_of, layout_answer, layout_of, read_block_sums, read_string_sums, read_checks, message_refusal, numbers_read, read_refusal, read_target}
use Rattle.message.specs.declared.Layout.{Layout}
use Rattle.message.specs.declared.layouts.Legal.{Legal}
use Rattle.message.proofs.Answers.{fit_named, refuses_message, refuses_nothing, numbers-count}
use Rattle.message.proofs.Legal.{legal_bounds, sizes}
use Rattle.message.proofs.Messages.{read_encodable}
use Rattle.consistent.specs.Consistent.{most_losses, bits_of, consistent, candidate, the_list}
use Rattle.consistent.specs.List.{wanted}
use Rattle.consistent.proofs.Candidate.{candidate_is}
use Rattle.found.specs.Found.{Given, all_sent}
use Rattle.lister.proofs.Row.{FitRow, length-bits}

-- ---- how many numbers there are
-- of two numbers that are at least 1 the sum is at most the product and 1
sum_product : (a b : ℕ) → 1 ≤ a → 1 ≤ b → a + b ≤ a * b + 1
sum_product zero b h k = absurd (omega arith)
sum_product (suc a) zero h k = absurd (omega arith)
sum_product (suc a) (suc b) h k =
    omega (arith, suc-mul a (suc b), mul_comm a (suc b), suc-mul b a)

-- the numbers of a legal layout are few
pub numbers-few : (l : Layout) → legal l ≡ true → l.l1 + l.l2 + l.r ≤ most_numbers
numbers-few l g =
    let b = legal_bounds l g in
    omega (arith, sum_product l.l1 l.l2 b.l1_low b.l2_low, (sizes l b).chunks, b.r_high)

-- so reading to as many entries refuses what the message is refused for, and nothing else
reads_all : (s o : List ℕ) → length o ≡ most_numbers → read_refusal s (length o) ≡ message_refusal s
reads_all s o n = go (message_refusal s) refl
  where
    go : (q : ℕ) → message_refusal s ≡ q → read_refusal s (length o) ≡ message_refusal s
    go zero e =
        let l = layout_of s in
        refuses_nothing s o e (omega (arith, numbers-count s l refl, numbers-few l (fit_named s l e refl).0)) ∙ sym e
    go (suc q) e = refuses_message s o (λ z. omega arith)

-- what reading a message to an array of as many entries gives: the answer is that of the message's own checks, and the
-- first of the entries afterwards are the numbers of a fit message
pub record Numbers (s : List ℕ) (a : Result Legal Refusal) (entries : List ℕ) : Type 0 where
  pub answer : read_of a ≡ layout_answer (message_refusal s) s
  pub front : message_refusal s ≡ 0 → (l : Layout) → layout_of s ≡ l
      → take (l.l1 + l.l2 + l.r) entries ≡ numbers_read s

pub numbers-read : (s o entries : List ℕ) (a : Result Legal Refusal) → length o ≡ most_numbers
    → (read_of a ≡ layout_answer (read_refusal s (length o)) s) × (entries ≡ read_target s o) → Numbers s a entries
unfolding read_target
numbers-read s o entries a n h = record {
  answer = h.0 ∙ ap (λ (q : ℕ). layout_answer q s) (reads_all s o n);
  front =
      λ e l k.
      ap (take (l.l1 + l.l2 + l.r)) (h.1
      ∙ ap (λ (q : ℕ). cond (eqb q 0) (numbers_read s ++ drop (length (numbers_read s)) o) o) (reads_all s o n ∙ e))
      ∙ take_at (numbers_read s) (drop (length (numbers_read s)) o) (l.l1 + l.l2 + l.r) (numbers-count s l k);
}

-- an answer that refuses says what the message is refused for
pub message-number : (s : List ℕ) (a : Result Legal Refusal) (q : Refusal) → a ≡ Err q
    → read_of a ≡ layout_answer (message_refusal s) s → message_refusal s ≡ number_of q
unfolding layout_answer
message-number s a q e h =
    sym (ap (λ (p : LayoutAnswer). p.refusal) h) ∙ ap (λ (v : Result Legal Refusal). (read_of v).refusal) e

-- ---- each number is in range
at-most-each : (w : ℕ) (vs : List ℕ) (i : ℕ) → AtMost w vs → i < length vs → get_or vs i 0 ≤ w
at-most-each w [] i a h = absurd (omega arith)
at-most-each w (v ∷ vs) zero a h = a.0
at-most-each w (v ∷ vs) (suc i) a h = at-most-each w vs i a.1 (omega arith)

module _ (s : List ℕ) (e : message_refusal s ≡ 0) where
  abbrev block_part : List ℕ
  block_part = read_block_sums (layout_of s) s

  abbrev string_part : List ℕ
  string_part = read_string_sums (layout_of s) s

  abbrev check_part : List ℕ
  check_part = read_checks (layout_of s) s

  numbers-joined : numbers_read s ≡ block_part ++ (string_part ++ check_part)
  unfolding numbers_read
  numbers-joined = append_assoc block_part string_part check_part

  blocks-in-range : (i : ℕ) → i < (layout_of s).l1 → get_or (numbers_read s) i 0 ≤ block_bits (layout_of s)
  blocks-in-range i h =
      let r = read_encodable s e in
      let n : i < length block_part = omega (arith, r.block_count) in
      rw (numbers-joined, get_or-append block_part (string_part ++ check_part) 0 i n)
      (at-most-each (block_bits (layout_of s)) block_part i r.block_range n)

  string-at : (j : ℕ) → length block_part ≡ (layout_of s).l1 → j < length string_part
      → get_or (numbers_read s) ((layout_of s).l1 + j) 0 ≡ get_or string_part j 0
  string-at j b n =
      ap (λ (t : List ℕ). get_or t ((layout_of s).l1 + j) 0) numbers-joined
      ∙ ap (λ (k : ℕ). get_or (block_part ++ (string_part ++ check_part)) (k + j) 0) (sym b)
      ∙ get_or-append-add block_part (string_part ++ check_part) j 0
      ∙ get_or-append string_part check_part 0 j n

  strings-in-range : (j : ℕ) → j < (layout_of s).l2 → get_or (numbers_read s) ((layout_of s).l1 + j) 0 ≤ string_bits (layout_of s)
  strings-in-range j h =
      let r = read_encodable s e in
      let n : j < length string_part = omega (arith, r.string_count) in
      rw (string-at j r.block_count n) (at-most-each (string_bits (layout_of s)) string_part j r.string_range n)

-- ---- what a search is given, and what it is to find
module _ (s row : List ℕ) (m : ℕ) (e : message_refusal s ≡ 0) (h : m ≤ length row * 8) where
  own-given : m ≤ bits_of s → bits_of s - m ≤ most_losses → Given (layout_of s) (numbers_read s) (take m (unpack row))
  own-given short few =
      let n = length-bits (bits_of s) row m h in
      record {
        is_legal = (fit_named s (layout_of s) e refl).0;
        bits = bits-take m (unpack row) (bits-unpack row);
        short = omega arith;
        few = omega arith;
        count = numbers-count s (layout_of s) refl;
        blocks = blocks-in-range s e;
        strings = strings-in-range s e;
      }

  -- a fit message, by the layout that its head names, and a fit row are what a search is to be given
  pub given : (l : Layout) (numbers : List ℕ) → layout_of s ≡ l → numbers ≡ numbers_read s → FitRow (row_bits l) row m
      → Given l numbers (take m (unpack row))
  given l numbers k n f =
      let w : bits_of s ≡ row_bits l = ap row_bits k in
      rw (n, ← k) (own-given (omega (arith, f.short)) (omega (arith, f.few)))

  -- the rows that are consistent with the numbers are those to be listed
  pub sent-wanted : AllBytes s → all_sent (layout_of s) (numbers_read s) (take m (unpack row)) ≡ wanted s row m
  unfolding wanted the_list
  sent-wanted b =
      let y : List ℕ = take m (unpack row) in
      let n : length y ≡ m = length-bits (bits_of s) row m h in
      keep_same (candidate (layout_of s) (numbers_read s) y) (consistent s m y) (all_rows (bits_of s))
      (λ x p. candidate_is s y x b e (rows-sound (bits_of s) x p) ∙ ap (λ (k : ℕ). consistent s k y x) n)
