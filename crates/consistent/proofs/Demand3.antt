-- Demand 3, "the list is exact": the theorems that need no search. That the list holds exactly the consistent rows, in
-- dictionary order and each once, is `list_exact` and `list_ascending` in Consistent.antt; here stand "with none or one
-- deleted it holds at most one row" and "the row is listed whenever the list fits its slice". Assumes nothing.
use Prim.Native.Nat.{ℕ, zero, suc, ◌-◌, ◌≤◌}
use mathlib.Core.Path.{◌≡◌, refl, sym, ap, ◌∙◌}
use mathlib.Core.Bool.{true}
use mathlib.Core.List.{List, ◌++◌, map}
use native.Mathlib.Nat.{mul_assoc}
use native.Mathlib.Omega.{arith}
use lib.Dec.{eqb-suc-zero}
use lib.ListN.{length, take, drop}
use Rattle.refusal.specs.Refusal.{first_refusal}
use Rattle.bits.specs.Bits.{pack, unpack}
use Rattle.bits.proofs.Packing.{fits-pack}
use Rattle.rows.specs.Deletion.{comes_from}
use Rattle.rows.specs.Order.{Mem, Row}
use Rattle.rows.specs.Slice.{flat}
use Rattle.rows.proofs.Deletion.{comes-length, comes-bits}
use Rattle.rows.proofs.Single.{at_most_one}
use Rattle.message.specs.Layout.{legal, row_bits, block_bits}
use Rattle.message.specs.Message.{block_sums, message}
use Rattle.message.specs.Read.{layout_of, read_block_sums}
use Rattle.message.specs.declared.Layout.{Layout}
use Rattle.message.proofs.Messages.{fit}
use Rattle.message.proofs.Roundtrip.{message-fit, message-reads}
use Rattle.consistent.specs.Consistent.{most_losses, bits_of, consistent, the_list}
use Rattle.consistent.specs.List.{room, wanted, input_checks, list_refusal, list_answer, list_slice}
use Rattle.consistent.proofs.Blocks.{same_row}
use Rattle.consistent.proofs.Consistent.{of_consistent, is_consistent, list_exact}
use Rattle.consistent.proofs.Greedy.{comes-losses}
use Rattle.consistent.proofs.List.{wanted-packed, message_passed, input_passed, input_passes, answer_is, list_counts, list_writes}

-- ---- "with none or one deleted it holds at most one row"
-- rows of one layout with the same message have the same block sums
same-sums : (l : Layout) (x z : List ℕ) → legal l ≡ true → Row (row_bits l) x → Row (row_bits l) z
    → message l x ≡ message l z → block_sums l x ≡ block_sums l z
same-sums l x z g r t e =
    sym (message-reads l x g r.1 r.0).block_sums_are ∙ ap (read_block_sums l) e
    ∙ (message-reads l z g t.1 t.0).block_sums_are

-- with none or one deleted, any two consistent rows are equal
consistent-same : (s : List ℕ) (m : ℕ) (y x z : List ℕ) → legal (layout_of s) ≡ true → bits_of s - m ≤ 1
    → Row (bits_of s) x → Row (bits_of s) z
    → consistent s m y x ≡ true → consistent s m y z ≡ true → x ≡ z
unfolding block_sums
consistent-same s m y x z g h r t p q =
    let l = layout_of s in
    let c = of_consistent s m y x p in
    let d = of_consistent s m y z q in
    let sums = same-sums l x z g r t (c.own ∙ sym d.own) in
    let n = mul_assoc l.l1 l.l2 l.nc in
    same_row l.l1 (block_bits l) x z y r.1 t.1 (comes-bits x (bits_of s - m) y c.comes r.1) (r.0 ∙ n)
    (t.0 ∙ n) sums
    (omega (arith, comes-losses x (bits_of s - m) y c.comes))
    (omega (arith, comes-losses z (bits_of s - m) y d.comes))

-- the list of a legal layout has at most one row
pub list_single : (s : List ℕ) (m : ℕ) (y : List ℕ) → legal (layout_of s) ≡ true → bits_of s - m ≤ 1
    → length (the_list s m y) ≤ 1
unfolding the_list
list_single s m y g h = at_most_one (consistent s m y) (bits_of s) (λ x z r t p q. consistent-same s m y x z g h r t p q)

-- whatever the message, the row and the slice: with none or one deleted, at most one row is counted
pub one_at_most : (s row : List ℕ) (m slice : ℕ) → bits_of s - m ≤ 1 → (list_answer s row m slice).count ≤ 1
unfolding wanted
one_at_most s row m slice h = go (list_refusal s row m slice) refl
  where
    go : (q : ℕ) → list_refusal s row m slice ≡ q → (list_answer s row m slice).count ≤ 1
    go zero e =
        rw (answer_is s row m slice 0 e)
        (list_single s m (take m (unpack row)) (fit s (message_passed s row m (input_passed s row m slice e))).is_legal
        h)
    go (suc q) e = rw (answer_is s row m slice (suc q) e, eqb-suc-zero q) (omega arith)

-- ---- "the row is listed whenever the list fits its slice"
-- a row's own message names its layout
layout-own : (l : Layout) (x : List ℕ) → layout_of (message l x) ≡ l
unfolding layout_of message
layout-own l x = refl

-- a row is consistent with its own message and whatever deletions leave of it
pub own-consistent : (l : Layout) (x : List ℕ) (k : ℕ) (y : List ℕ) → Row (row_bits l) x → comes_from x k y ≡ true
    → consistent (message l x) (length y) y x ≡ true
own-consistent l x k y r c =
    let s = message l x in
    let n : bits_of s ≡ row_bits l = ap row_bits (layout-own l x) in
    let d : bits_of s - length y ≡ k = omega (arith, comes-length x k y c, r.0) in
    is_consistent s (length y) y x (record { long = r.0 ∙ sym n; comes = rw d c; own = rw (layout-own l x) refl })

-- x is listed for the message s and the received row y: listing answers the number of the rows of the list, x is one of
-- them, and the slice holds them all from its start
pub record Listed (s y x slice : List ℕ) : Type 0 where
  pub counted : list_answer s (pack y) (length y) (length slice)
      ≡ record { refusal = 0; count = length (the_list s (length y) y) }
  pub among : Mem x (the_list s (length y) y)
  pub written : list_slice s (pack y) (length y) slice
      ≡ flat (map pack (the_list s (length y) y)) ++ drop (length (flat (map pack (the_list s (length y) y)))) slice

-- "for every legal layout, every row of its length and the row's own message under it: whichever of the row's bits, at
-- most 12, were deleted, and only deleted, the row is listed whenever the list fits its slice"
pub own-listed : (l : Layout) (x : List ℕ) (k : ℕ) (y slice : List ℕ) → legal l ≡ true → Row (row_bits l) x
    → k ≤ most_losses → comes_from x k y ≡ true
    → length (the_list (message l x) (length y) y) ≤ room (message l x) (length slice) → Listed (message l x) y x slice
own-listed l x k y slice g r most c h =
    let s = message l x in
    let a = comes-bits x k y c r.1 in
    let n : bits_of s ≡ row_bits l = ap row_bits (layout-own l x) in
    let e : wanted s (pack y) (length y) ≡ the_list s (length y) y = wanted-packed s y a in
    let m : length y ≤ bits_of s = omega (arith, comes-length x k y c, r.0) in
    let d : bits_of s - length y ≤ most_losses = omega (arith, comes-length x k y c, r.0) in
    let p : first_refusal (input_checks s (pack y) (length y)) ≡ 0 =
    input_passes s (pack y) (length y) (message-fit l x g r.1 r.0) m d (fits-pack y a) in
    let w : length (wanted s (pack y) (length y)) ≤ room s (length slice) = rw e h in
    record {
      counted = rw e at (list_counts s (pack y) (length y) slice p w);
      among = (list_exact s (length y) y x).1 ((r.0 ∙ sym n, r.1), own-consistent l x k y r c);
      written = rw e at (list_writes s (pack y) (length y) slice p w);
    }
