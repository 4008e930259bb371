-- A row walks the columns of each heavy block through its loss states; so what the tables say of a state it comes
-- through is at least the number of chunks in which it differs. Rests on greedy matching, by the crate column.
-- Assumes nothing.
use Prim.Native.Nat.{ℕ, zero, suc, ◌+◌, ◌-◌, ◌<◌, ◌≤◌}
use mathlib.Core.Path.{◌≡◌, refl, sym, ap, ◌∙◌}
use mathlib.Core.Bool.{true, false}
use mathlib.Core.List.{List}
use native.Mathlib.Numerals.{add-one}
use native.Mathlib.Omega.{arith}
use lib.Dec.{eqb}
use lib.ListN.{get_or}
use Rattle.message.specs.declared.Layout.{Layout}
use Rattle.lines.specs.Lines.{unlike}
use Rattle.states.specs.States.{each, firsts, entry_at, added_up}
use Rattle.states.specs.declared.Shape.{Shape}
use Rattle.states.proofs.Sums.{firsts_same}
use Rattle.column.specs.Column.{chunk_at, apart_in}
use Rattle.column.specs.declared.Heavy.{Heavy}
use Rattle.far.specs.Far.{Walk, step_at, block_at}
use Rattle.far.proofs.Unlost.{one-most, reads-there, reads_same}
use Rattle.marks.specs.Marks.{Path, apart_before, apart_from, Kept}
use Rattle.marks.proofs.Paths.{own-within}
use Rattle.near.specs.Near.{CountedIn, Counted, most_in, SaysIn, most, most_after}

module _ (l : Layout) (heavy : Heavy) (z vs : List ℕ) where
  -- in how many of the first columns the chunk of block s is another than in z
  in_block : (s k : ℕ) → ℕ
  in_block s zero = 0
  in_block s (suc j) = in_block s j + unlike vs z (chunk_at l heavy j s)

  in-next : (s j : ℕ) → in_block s (j + 1) ≡ in_block s j + unlike vs z (chunk_at l heavy j s)
  unfolding in_block
  in-next s j = rw (add-one j) refl

  -- the first n blocks together
  inBlocks : (k n : ℕ) → ℕ
  inBlocks k zero = 0
  inBlocks k (suc s) = inBlocks k s + in_block s k

  in-none : (n : ℕ) → inBlocks 0 n ≡ 0
  unfolding inBlocks in_block
  in-none zero = refl
  in-none (suc n) = omega (arith, in-none n)

  in-column : (j n : ℕ) → inBlocks (suc j) n ≡ inBlocks j n + apart_in l heavy z vs j n
  unfolding inBlocks in_block apart_in
  in-column j zero = refl
  in-column j (suc n) = omega (arith, in-column j n)

  -- counted by blocks or by columns, it is the same
  by_blocks : (k : ℕ) → apart_before l heavy z vs k ≡ inBlocks k heavy.n
  unfolding apart_before
  by_blocks zero = sym (in-none heavy.n)
  by_blocks (suc k) = omega (arith, by_blocks k, in-column k heavy.n)

  in-more : (s j : ℕ) → in_block s (j + 1) ≤ in_block s j + 1
  in-more s j =
      omega (arith, in-next s j, one-most (eqb (get_or vs (chunk_at l heavy j s) 0) (get_or z (chunk_at l heavy j s) 0)))

module _ (l : Layout) (y numbers : List ℕ) (heavy : Heavy) (row : List ℕ) (shape : Shape) (vs : List ℕ) (own : ℕ → ℕ → ℕ)
    (kept : Kept heavy shape) (path : Path l y numbers heavy row (each shape.size) vs own) (z : List ℕ) where
  abbrev size : ℕ → ℕ
  size = each shape.size

  within : (s : ℕ) → s < heavy.n → (t : ℕ) → t ≤ l.l2 → own t s ≤ size s
  within s h t k = own-within l y numbers heavy row shape vs own kept path t k s (omega (arith, kept.blocks))

  -- ahead, counting the losses used
  walks-ahead : (s : ℕ) → s < heavy.n
      → Walk l y heavy z s (size s) true (λ t. size s - own t s) (in_block l heavy z vs s)
  unfolding in_block
  walks-ahead s h =
      record {
        starts = refl;
        within = λ t k. omega arith;
        rises = λ t k. omega (arith, (path.crosses t k).falls s h);
        more = λ t k. in-more l heavy z vs s t;
        reads = λ t k e. rw (back t k) (reads-there (path.crosses t k) s h (same t k e));
        same = λ t k e.
            rw (back t k)
            (omega (arith, in-next l heavy z vs s t, reads_same (path.crosses t k) s h (same t k e) z));
      }
    where
      same : (t : ℕ) → t < l.l2 → size s - own (t + 1) s ≡ size s - own t s → own (t + 1) s ≡ own t s
      same t k e = omega (arith, within s h t (omega arith), within s h (t + 1) (omega arith))

      back : (t : ℕ) → t < l.l2 → size s - (size s - own t s) ≡ own t s
      back t k = omega (arith, within s h t (omega arith))

  -- back, counting the losses left
  walks-back : (s : ℕ) → s < heavy.n
      → Walk l y heavy z s (size s) false (λ t. own (l.l2 - t) s)
      (λ t. in_block l heavy z vs s l.l2 - in_block l heavy z vs s (l.l2 - t))
  walks-back s h =
      record {
        starts = let e : l.l2 - 0 ≡ l.l2 = omega arith in rw e (omega arith);
        within = λ t k. within s h (l.l2 - t) (omega arith);
        rises = λ t k. rw (from t k, to t k) ((path.crosses (l.l2 - 1 - t) (omega arith)).falls s h);
        more = λ t k. rw (from t k, to t k) (omega (arith, in-more l heavy z vs s (l.l2 - 1 - t)));
        reads = λ t k e. rw (left_is t k e) (reads-there (path.crosses (l.l2 - 1 - t) (omega arith)) s h (stays t k e));
        same = λ t k e.
            rw (left_is t k e, from t k, to t k)
            (omega (
              arith,
              in-next l heavy z vs s (l.l2 - 1 - t),
              reads_same (path.crosses (l.l2 - 1 - t) (omega arith)) s h (stays t k e) z,
            ));
      }
    where
      from : (t : ℕ) → t < l.l2 → l.l2 - (t + 1) ≡ l.l2 - 1 - t
      from t k = omega arith

      to : (t : ℕ) → t < l.l2 → l.l2 - t ≡ l.l2 - 1 - t + 1
      to t k = omega arith

      left_is : (t : ℕ) → t < l.l2 → own (l.l2 - (t + 1)) s ≡ own (l.l2 - t) s
          → own (l.l2 - t) s ≡ own (l.l2 - 1 - t) s
      left_is t k e = sym e ∙ ap (λ (v : ℕ). own v s) (from t k)

      stays : (t : ℕ) → t < l.l2 → own (l.l2 - (t + 1)) s ≡ own (l.l2 - t) s
          → own (l.l2 - 1 - t + 1) s ≡ own (l.l2 - 1 - t) s
      stays t k e = ap (λ (v : ℕ). own v s) (sym (to t k)) ∙ left_is t k e

  -- what the tables say of a state that the row comes through is at least the number of chunks in which it differs
  module _ (before after : List ℕ) (counted : Counted l y heavy z shape.size before after) (j : ℕ)
      (inside : j ≤ l.l2) where
    most-block : (s : ℕ) → s < heavy.n
        → in_block l heavy z vs s l.l2 ≤ most_in l.l2 before after s (size s) (own j s) j
    most-block s h =
        let e : l.l2 - (l.l2 - j) ≡ j = omega arith in
        let a = counted.ahead s h _ _ (walks-ahead s h) j inside in
        let b = rw e at (counted.back s h _ _ (walks-back s h) (l.l2 - j) (omega arith)) in
        omega (arith, a, b)

    most-blocks : (n : ℕ) → n ≤ heavy.n → inBlocks l heavy z vs l.l2 n ≤ most l.l2 before after size (own j) j n
    unfolding inBlocks firsts
    most-blocks zero h = omega arith
    most-blocks (suc n) h = omega (arith, most-blocks n (omega arith), most-block n (omega arith))

    pub most_covers : apart_from l heavy z vs 0 ≤ most l.l2 before after size (own j) j shape.n
    most_covers =
        let e : shape.n ≡ heavy.n = kept.blocks in
        rw e (omega (arith, most-blocks heavy.n (omega arith), by_blocks l heavy z vs l.l2))

  -- and of what it counts from a column on
  module _ (after : List ℕ) (counted : CountedIn l y heavy z shape.size false after) (j : ℕ) (inside : j ≤ l.l2) where
    after-blocks : (n : ℕ) → n ≤ heavy.n
        → inBlocks l heavy z vs l.l2 n ≤ inBlocks l heavy z vs j n + most_after l.l2 after (own j) j n
    unfolding inBlocks firsts
    after-blocks zero h = omega arith
    after-blocks (suc n) h =
        let e : l.l2 - (l.l2 - j) ≡ j = omega arith in
        let b = rw e at (counted n (omega arith) _ _ (walks-back n (omega arith)) (l.l2 - j) (omega arith)) in
        omega (arith, after-blocks n (omega arith), b)

    pub after_covers : apart_from l heavy z vs j ≤ most_after l.l2 after (own j) j shape.n
    after_covers =
        let e : shape.n ≡ heavy.n = kept.blocks in
        rw e (omega (
          arith,
          after-blocks heavy.n (omega arith),
          by_blocks l heavy z vs l.l2,
          by_blocks l heavy z vs j,
        ))

-- ---- states
-- what a table of values says of the blocks adds up to what the tables say of a state
pub most_added : (columns : ℕ) (before after values : List ℕ) (size left : ℕ → ℕ) (j n : ℕ)
    → ((s e : ℕ) → s < n → e ≤ size s → SaysIn columns before after s (size s) j values e)
    → ((s : ℕ) → s < n → left s ≤ size s)
    → added_up values left n ≡ most columns before after size left j n
most_added columns before after values size left j n says within =
    firsts_same (λ s. get_or values (entry_at s (left s)) 0) (λ s. most_in columns before after s (size s) (left s) j) n
    (λ s h. (says s (left s) h (within s h)).0)

-- only the losses left in the blocks count
pub after_same : (columns : ℕ) (after : List ℕ) (a b : ℕ → ℕ) (j n : ℕ) → ((s : ℕ) → s < n → a s ≡ b s)
    → most_after columns after a j n ≡ most_after columns after b j n
after_same columns after a b j n h =
    let says : ℕ → ℕ → ℕ = λ s v. get_or after (step_at (block_at columns s) (columns - j) + v) 0 in
    firsts_same (λ s. says s (a s)) (λ s. says s (b s)) n (λ s k. ap (says s) (h s k))
