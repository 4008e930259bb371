-- Demand 3, "the list is exact", of the operation `list` as callers have it: for every result r and every slice
-- afterwards that meet its contract (`Promised`, the `ensures` of `list` word for word).
-- - `exact`: "a list that was not refused holds, in dictionary order and each once, exactly the rows" that are
-- consistent, "and the   count answered is the number of these rows".
-- - `at_most_one`: "with none or one deleted it holds at most one row".
-- - `row_listed` and `row-among`: "for every legal layout, every row of its length and the row's own message under it:
-- whichever of the row's bits, at most 12, were deleted, and only deleted, the row is listed whenever the list fits its
-- slice". - `same_again`: the same message, row, bit count and slice give the same answer and the same slice.
-- Assumes nothing.
use Prim.Native.Nat.{ℕ, ◌-◌, ◌≤◌}
use mathlib.Core.Path.{◌≡◌, refl, sym, ap, ◌∙◌}
use mathlib.Core.Bool.{Bool, true, false, cond}
use mathlib.Core.Logic.{◌↔◌}
use mathlib.Core.List.{List, ◌++◌, map}
use native.Mathlib.Omega.{arith}
use Rattle.std.specs.Prelude.{Result, Ok, Err}
use borrow.Author.Tests.{ltb-false}
use lib.Dec.{eqb}
use lib.ListN.{length, take, drop}
use Rattle.refusal.specs.Refusal.{number_of, first_refusal}
use Rattle.refusal.specs.declared.Refusal.TheVariants.{NoMessage, Version, Layout as LayoutRefusal, MessageLength, Sum, SpareBit, Losses, Packing, ListFull, ShortTarget}
use Rattle.refusal.specs.declared.Refusal.{Refusal}
use Rattle.refusal.proofs.Laws.{numbered}
use Rattle.bits.specs.Bits.{AllBits, pack, unpack}
use Rattle.bits.proofs.Packing.{unpack-pack}
use Rattle.rows.specs.Deletion.{comes_from}
use Rattle.rows.specs.Order.{Mem, Ascending, Row}
use Rattle.rows.specs.Slice.{flat}
use Rattle.rows.proofs.Deletion.{comes-bits}
use Rattle.message.specs.Layout.{legal, row_bits}
use Rattle.message.specs.Message.{message}
use Rattle.message.specs.declared.Layout.{Layout}
use Rattle.consistent.specs.Consistent.{most_losses, bits_of, the_list}
use Rattle.consistent.specs.List.{ListAnswer, room, wanted, input_checks, list_refusal, list_answer, list_slice}
use Rattle.consistent.proofs.Consistent.{Consistent, of_consistent, is_consistent, list_exact, list_ascending}
use Rattle.consistent.proofs.Demand3.{one_at_most, own-consistent, own-listed}
use Rattle.consistent.proofs.List.{input_passed, answer_is, list_writes}
use Rattle.lister.specs.Answer.{listed_of}
use Rattle.lister.proofs.Answers.{by_room}

-- the contract of `list`: s is the message, row the packed row of m bits, slice the list slice at entry
abbrev pub Promised : (s row : List ℕ) (m : ℕ) (slice : List ℕ) (r : Result ℕ Refusal) (exit : List ℕ) → Type 0
Promised s row m slice r exit = (listed_of r ≡ list_answer s row m (length slice)) × (exit ≡ list_slice s row m slice)

-- ---- what an answer says
-- no refusal is a count, so what is answered says which of the two the result is
counted : (r : Result ℕ Refusal) (n : ℕ) → listed_of r ≡ record { refusal = 0; count = n } → r ≡ Ok n
counted (Ok k) n e = ap (λ (a : ListAnswer). Ok a.count) e
counted (Err q) n e = absurd (omega (arith, numbered q, ap (λ (a : ListAnswer). a.refusal) e))

-- the number answered is that of the first check that applies
pub number_is : (s row : List ℕ) (m : ℕ) (slice : List ℕ) (r : Result ℕ Refusal) (exit : List ℕ) → Promised s row m slice r exit
    → (listed_of r).refusal ≡ list_refusal s row m (length slice)
number_is s row m slice r exit p =
    let q = list_refusal s row m (length slice) in
    ap (λ (a : ListAnswer). a.refusal) (p.0 ∙ answer_is s row m (length slice) q refl)

module _ (s row : List ℕ) (m : ℕ) (slice : List ℕ) (r : Result ℕ Refusal) (exit : List ℕ) (p : Promised s row m slice r exit)
    (n : ℕ) (e : r ≡ Ok n) where
  -- a count: no check applies, all rows fit, and it is their number
  pub not_refused : list_refusal s row m (length slice) ≡ 0
  not_refused = sym (number_is s row m slice r exit p) ∙ ap (λ (v : Result ℕ Refusal). (listed_of v).refusal) e

  pub input_fit : first_refusal (input_checks s row m) ≡ 0
  input_fit = input_passed s row m (length slice) not_refused

  pub all_fit : length (wanted s row m) ≤ room s (length slice)
  all_fit =
      ltb-false (room s (length slice)) (length (wanted s row m))
      (passes _ (sym (by_room s row m slice input_fit) ∙ not_refused))
    where
      passes : (t : Bool) → ◌≡◌ {A = ℕ} (cond t 9 0) 0 → t ≡ false
      passes true h = absurd (omega arith)
      passes false h = refl

  pub count_is : n ≡ length (wanted s row m)
  count_is =
      sym (ap (λ (v : Result ℕ Refusal). (listed_of v).count) e)
      ∙ ap (λ (a : ListAnswer). a.count) (p.0 ∙ answer_is s row m (length slice) 0 not_refused)

  pub rows_written : exit ≡ flat (map pack (wanted s row m)) ++ drop (length (flat (map pack (wanted s row m)))) slice
  rows_written = p.1 ∙ list_writes s row m slice input_fit all_fit

-- ---- "the list is exact"
-- what a count of n says: there are rows, n of them, packed in the slice from its start, and beyond them the bytes as
-- at entry; they stand in dictionary order, each once; and they are exactly the strings of bits that are consistent
-- with the message and the row
pub record Exact (s row : List ℕ) (m : ℕ) (slice : List ℕ) (n : ℕ) (exit : List ℕ) : Type 0 where
  pub rows : List (List ℕ)
  pub count : n ≡ length rows
  pub written : exit ≡ flat (map pack rows) ++ drop (length (flat (map pack rows))) slice
  pub ascending : Ascending rows
  pub exactly : (x : List ℕ) → Mem x rows ↔ (AllBits x × Consistent s m (take m (unpack row)) x)

members : (s : List ℕ) (m : ℕ) (y x : List ℕ) → Mem x (the_list s m y) ↔ (AllBits x × Consistent s m y x)
members s m y x = (
  λ h. let k = (list_exact s m y x).0 h in (k.0.1, of_consistent s m y x k.1),
  λ h. (list_exact s m y x).1 ((h.1.long, h.0), is_consistent s m y x h.1),
)

pub exact : (s row : List ℕ) (m : ℕ) (slice : List ℕ) (r : Result ℕ Refusal) (exit : List ℕ) → Promised s row m slice r exit
    → (n : ℕ) → r ≡ Ok n → Exact s row m slice n exit
unfolding wanted
exact s row m slice r exit p n e = record {
  rows = wanted s row m;
  count = count_is s row m slice r exit p n e;
  written = rows_written s row m slice r exit p n e;
  ascending = list_ascending s m (take m (unpack row));
  exactly = members s m (take m (unpack row));
}

-- ---- "with none or one deleted it holds at most one row"
pub at_most_one : (s row : List ℕ) (m : ℕ) (slice : List ℕ) (r : Result ℕ Refusal) (exit : List ℕ) → Promised s row m slice r exit
    → (n : ℕ) → r ≡ Ok n → bits_of s - m ≤ 1 → n ≤ 1
at_most_one s row m slice r exit p n e h =
    let v : (list_answer s row m (length slice)).count ≡ n =
    ap (λ (t : ListAnswer). t.count) (sym p.0) ∙ ap (λ (t : Result ℕ Refusal). (listed_of t).count) e in
    omega (arith, one_at_most s row m (length slice) h)

-- ---- "the row is listed whenever the list fits its slice"
-- x is a row of a legal layout l, y what is left of it where at most 12 bits were deleted
module _ (l : Layout) (x : List ℕ) (k : ℕ) (y : List ℕ) (g : legal l ≡ true) (t : Row (row_bits l) x)
    (most : k ≤ most_losses)
    (c : comes_from x k y ≡ true) where
  -- the list for the row's own message and y
  abbrev pub own : List (List ℕ)
  own = the_list (message l x) (length y) y

  module _ (slice : List ℕ) (r : Result ℕ Refusal) (exit : List ℕ)
      (p : Promised (message l x) (pack y) (length y) slice r exit) where
    -- where the list fits, it is answered and written whole, and x is on it
    pub row_listed : length own ≤ room (message l x) (length slice)
        → (r ≡ Ok (length own))
        × (Mem x own × (exit ≡ flat (map pack own) ++ drop (length (flat (map pack own))) slice))
    row_listed h =
        let w = own-listed l x k y slice g t most c h in
        (counted r (length own) (p.0 ∙ w.counted), (w.among, p.1 ∙ w.written))

    -- so it is on every list that was not refused
    pub row-among : (n : ℕ) (q : r ≡ Ok n) → Mem x (exact (message l x) (pack y) (length y) slice r exit p n q).rows
    row-among n q =
        let e = exact (message l x) (pack y) (length y) slice r exit p n q in
        let b = comes-bits x k y c t.1 in
        (e.exactly x).1 (
          t.1,
          rw (unpack-pack y b) (of_consistent (message l x) (length y) y x (own-consistent l x k y t c)),
        )

-- ---- the archive
-- the refusal with a number
abbrev numbered_by : ℕ → Refusal
numbered_by n =
    cond (eqb n 1) NoMessage
    (cond (eqb n 2) Version
    (cond (eqb n 3) LayoutRefusal
    (cond (eqb n 4) MessageLength
    (cond (eqb n 5) Sum
    (cond (eqb n 6) SpareBit
    (cond (eqb n 7) Losses
    (cond (eqb n 8) Packing
    (cond (eqb n 9) ListFull ShortTarget))))))))

number_names : (q : Refusal) → numbered_by (number_of q) ≡ q
number_names NoMessage = refl
number_names Version = refl
number_names LayoutRefusal = refl
number_names MessageLength = refl
number_names Sum = refl
number_names SpareBit = refl
number_names Losses = refl
number_names Packing = refl
number_names ListFull = refl
number_names ShortTarget = refl

-- results with the same number and count are the same
same_result : (r t : Result ℕ Refusal) → listed_of r ≡ listed_of t → r ≡ t
same_result r (Ok n) e = counted r n e
same_result (Ok n) (Err q) e = absurd (omega (arith, numbered q, ap (λ (a : ListAnswer). a.refusal) e))
same_result (Err p) (Err q) e =
    ap Err (sym (number_names p) ∙ ap (λ (a : ListAnswer). numbered_by a.refusal) e ∙ number_names q)

-- two calls with the same message, row, bit count and slice answer the same and leave the same bytes
pub same_again : (s row : List ℕ) (m : ℕ) (slice : List ℕ) (r t : Result ℕ Refusal) (exit last : List ℕ)
    → Promised s row m slice r exit → Promised s row m slice t last → (r ≡ t) × (exit ≡ last)
same_again s row m slice r t exit last p q = (same_result r t (p.0 ∙ sym q.0), p.1 ∙ sym q.1)
