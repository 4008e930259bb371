-- All sums of a row one after another: the block sums, then the chunk-string sums. Assumes nothing.
use Prim.Native.Nat.{ℕ, ◌+◌, ◌-◌, ◌<◌, ◌≤◌}
use mathlib.Core.Path.{◌≡◌, sym, ap, ◌∙◌}
use mathlib.Core.List.{List, ◌++◌}
use native.Mathlib.Omega.{arith}
use lib.ListN.{length, get_or, take, drop, length-append, length-drop, get_or-append}
use lib.Seq.{get_or-append-add, get_or-take, get_or-drop, take_at, take_all, drop_at, length-take-le}
use Rattle.message.specs.Message.{block_sums, string_sums}
use Rattle.message.specs.declared.Layout.{Layout}
use Rattle.message.proofs.Cutting.{length_block_sums, length_string_sums}

module _ (l : Layout) (x : List ℕ) where
  pub sum_of_block : (k : ℕ) → k < l.l1 → get_or (block_sums l x) k 0 ≡ get_or (block_sums l x ++ string_sums l x) k 0
  sum_of_block k h = sym (get_or-append (block_sums l x) (string_sums l x) 0 k (omega (arith, length_block_sums l x)))

  pub sum_of_string : (k : ℕ) → l.l1 ≤ k
      → get_or (string_sums l x) (k - l.l1) 0 ≡ get_or (block_sums l x ++ string_sums l x) k 0
  sum_of_string k h =
      let e : length (block_sums l x) + (k - l.l1) ≡ k = omega (arith, length_block_sums l x) in
      sym (get_or-append-add (block_sums l x) (string_sums l x) (k - l.l1) 0)
      ∙ ap (λ (n : ℕ). get_or (block_sums l x ++ string_sums l x) n 0) e

  pub length-sums : length (block_sums l x ++ string_sums l x) ≡ l.l1 + l.l2
  length-sums =
      length-append (block_sums l x) (string_sums l x) ∙ omega (arith, length_block_sums l x, length_string_sums l x)

  -- so many sums from a first one on
  pub length_part : (first count : ℕ) → first + count ≤ l.l1 + l.l2
      → length (take count (drop first (block_sums l x ++ string_sums l x))) ≡ count
  length_part first count h =
      length-take-le count (drop first (block_sums l x ++ string_sums l x))
      (omega (arith, length-sums, length-drop first (block_sums l x ++ string_sums l x)))

  pub sum_of_part : (first count i : ℕ) → first ≤ i → i < first + count
      → get_or (block_sums l x ++ string_sums l x) i 0
      ≡ get_or (take count (drop first (block_sums l x ++ string_sums l x))) (i - first) 0
  sum_of_part first count i h k =
      let all = block_sums l x ++ string_sums l x in
      let e : first + (i - first) ≡ i = omega arith in
      sym (get_or-take count (drop first all) (i - first) 0 (omega arith) ∙ get_or-drop first all (i - first) 0
      ∙ ap (λ (n : ℕ). get_or all n 0) e)

  pub block_piece : take l.l1 (drop 0 (block_sums l x ++ string_sums l x)) ≡ block_sums l x
  block_piece = take_at (block_sums l x) (string_sums l x) l.l1 (length_block_sums l x)

  pub string_piece : take l.l2 (drop l.l1 (block_sums l x ++ string_sums l x)) ≡ string_sums l x
  string_piece =
      ap (take l.l2) (drop_at (block_sums l x) (string_sums l x) l.l1 (length_block_sums l x))
      ∙ take_all l.l2 (string_sums l x) (omega (arith, length_string_sums l x))
