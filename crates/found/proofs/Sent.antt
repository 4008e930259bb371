-- What is known of a row that is consistent with what is given. Assumes nothing.
use Prim.Native.Nat.{ℕ, ◌+◌, ◌-◌, ◌<◌}
use mathlib.Core.Path.{◌≡◌, sym, ap, ◌∙◌}
use mathlib.Core.Bool.{true}
use mathlib.Core.List.{List, ◌++◌}
use native.Mathlib.Omega.{arith}
use lib.ListN.{length, get_or, drop, get_or-append}
use lib.Seq.{drop_at, get_or-append-add}
use Rattle.bits.specs.Bits.{same}
use Rattle.bits.proofs.Laws.{both_left, both_right, same_eq}
use Rattle.rows.specs.Deletion.{comes_from}
use Rattle.message.specs.Layout.{row_bits}
use Rattle.message.specs.Message.{block_sums, string_sums, checks}
use Rattle.message.specs.declared.Layout.{Layout}
use Rattle.message.proofs.Cutting.{length_block_sums}
use Rattle.message.proofs.RowSums.{sum_of_block, length-sums}
use Rattle.consistent.specs.Consistent.{candidate}
use Rattle.consistent.specs.Query.{Query}
use Rattle.found.specs.Given.{Given, Sent}

-- the received bits come from it, and its sums and checks are the numbers given
pub record Parts (q : Query) (x : List ℕ) : Type 0 where
  pub comes : comes_from x (row_bits q.layout - length q.received) q.received ≡ true
  pub blocks : (i : ℕ) → i < q.layout.l1 → get_or (block_sums q.layout x) i 0 ≡ get_or q.numbers i 0
  pub strings :
      (j : ℕ) → j < q.layout.l2 → get_or (string_sums q.layout x) j 0 ≡ get_or q.numbers (q.layout.l1 + j) 0
  pub sums-checks : checks q.layout x ≡ drop (q.layout.l1 + q.layout.l2) q.numbers

module _ (l : Layout) (numbers y x : List ℕ) where
  candidate-comes : candidate l numbers y x ≡ true → comes_from x (length x - length y) y ≡ true
  unfolding candidate
  candidate-comes e =
      both_left (comes_from x (length x - length y) y) (same (block_sums l x ++ string_sums l x ++ checks l x) numbers) e

  candidate-numbers : candidate l numbers y x ≡ true → block_sums l x ++ string_sums l x ++ checks l x ≡ numbers
  unfolding candidate
  candidate-numbers e =
      same_eq (block_sums l x ++ string_sums l x ++ checks l x) numbers
      (both_right (comes_from x (length x - length y) y) (same (block_sums l x ++ string_sums l x ++ checks l x) numbers) e)

pub sent_parts : {q : Query} → Given q → (x : List ℕ) → Sent q x → Parts q x
sent_parts {q} given x s =
    record {
      comes = ap (λ (n : ℕ). comes_from x (n - length y) y) (sym s.0.0) ∙ candidate-comes l q.numbers y x s.1;
      blocks = λ i h. sum_of_block l x i h ∙ sum-given i (omega arith);
      strings = λ j h. string-sum j ∙ sum-given (l.l1 + j) (omega arith);
      sums-checks = sym (drop_at sums (checks l x) (l.l1 + l.l2) (length-sums l x)) ∙ ap (drop (l.l1 + l.l2)) own;
    }
  where
    l : Layout
    l = q.layout

    y : List ℕ
    y = q.received

    sums : List ℕ
    sums = block_sums l x ++ string_sums l x

    own : sums ++ checks l x ≡ q.numbers
    own = candidate-numbers l q.numbers y x s.1

    sum-given : (k : ℕ) → k < l.l1 + l.l2 → get_or sums k 0 ≡ get_or q.numbers k 0
    sum-given k h =
        sym (get_or-append sums (checks l x) 0 k (omega (arith, length-sums l x)))
        ∙ ap (λ (v : List ℕ). get_or v k 0) own

    string-sum : (j : ℕ) → get_or (string_sums l x) j 0 ≡ get_or sums (l.l1 + j) 0
    string-sum j =
        sym (get_or-append-add (block_sums l x) (string_sums l x) j 0)
        ∙ ap (λ (n : ℕ). get_or sums (n + j) 0) (length_block_sums l x)
