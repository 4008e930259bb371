-- The rows under a whole pattern: without heavy blocks the row in hand is whole, and with them the loss tables start
-- from it; and the one row that can be consistent where no bit is lost. Assumes nothing.
use Prim.Native.Nat.{ℕ, ◌+◌, ◌-◌, ◌*◌, ◌/◌, ◌%◌, ◌<◌, ◌≤◌}
use mathlib.Core.Path.{◌≡◌, refl, sym, ap, ◌∙◌}
use mathlib.Core.Logic.{inl, inr, ⊎_elim}
use mathlib.Core.List.{List}
use native.Mathlib.Nat.{add-zero, mul_assoc, mod-lt, div-add-mod', div-lt_iff_lt-mul}
use native.Mathlib.Omega.{arith}
use borrow.Author.Tests.{le-ltb}
use lib.ListN.{length, get_or, take}
use Rattle.bits.proofs.Laws.{lt_or_ge}
use Rattle.rows.proofs.Deletion.{strikes, strikes_none}
use Rattle.message.specs.Layout.{row_bits, block_bits}
use Rattle.message.specs.declared.Layout.{Layout}
use Rattle.consistent.specs.Greedy.{losses, in_all}
use Rattle.cells.specs.Cells.{share}
use Rattle.cells.proofs.Shares.{share-some, share_single}
use Rattle.found.specs.Found.{Given, Sent, InHand}
use Rattle.found.proofs.Found.{sent_parts}
use Rattle.tables.specs.Tables.{reached, Sound}
use Rattle.tables.specs.Tables.{Under as UnderTable}
use Rattle.column.specs.declared.Heavy.{Heavy}
use Rattle.tables.specs.declared.Table.{Table}
use Rattle.search.specs.Patterns.{Under, HeavyIn}
use Rattle.search.proofs.Losses.{blocks-lose}
use Rattle.anchor.proofs.Totals.{total-next}

-- the counts of a consistent row are all losses
pub all-counts : {l : Layout} {numbers y : List ℕ} (given : Given l numbers y) (counts row x : List ℕ)
    → Sent l numbers y x
    → Under l y counts l.l1 row x → in_all (take l.l1 counts) ≡ row_bits l - length y
all-counts {l} given counts row x sent u = sym (u.own l.l1 (omega arith)) ∙ blocks-lose given x sent

-- where no bit is lost, a consistent row is the received one
pub only-received : {l : Layout} {numbers y : List ℕ} → Given l numbers y → length y ≡ row_bits l → (x : List ℕ)
    → Sent l numbers y x
    → x ≡ y
only-received {l} {numbers} {y} given n x sent =
    let z : row_bits l - length y ≡ 0 = omega arith in
    strikes_none x y (strikes x 0 y (rw z at (sent_parts given x sent).comes))

module _ (l : Layout) (y counts : List ℕ) (heavy : Heavy) (left : List ℕ) (q : HeavyIn counts l.l1 heavy left) where
  -- no block is heavy
  light : heavy.n ≡ 0 → (b : ℕ) → b < l.l1 → get_or counts b 0 ≤ 1
  light z b h =
      ⊎_elim (λ p. omega arith)
      (λ (p : 2 ≤ get_or counts b 0). let w = q.every b h p in absurd (omega (arith, w.1.0)))
      (lt_or_ge (get_or counts b 0) 2)

  pub all_in_hand : 1 ≤ l.l2 → heavy.n ≡ 0 → (row x : List ℕ) → Under l y counts l.l1 row x → InHand l row x
  all_in_hand low z row x u c h =
      let b : ℕ = c / l.l2 in
      let j : ℕ = c % l.l2 in
      let e : b * l.l2 + j ≡ c = div-add-mod' c l.l2 in
      let k : j < l.l2 = mod-lt c (omega arith) in
      let m : b < l.l1 = (div-lt_iff_lt-mul {k = l.l2} {x = c} {y = l.l1} (omega arith)).1 h in
      rw e at (u.light b j m k (light z b m))

-- a table of which nothing is shared yet
module _ (l : Layout) (counts : List ℕ) (heavy : Heavy) (t : Table) (q : HeavyIn counts l.l1 heavy t.left)
    (none : t.cells.n ≡ 0)
    (closed : (z : ℕ) → get_or t.cells.lost z 0 ≡ 0) where
  none-reached : (s : ℕ) → reached 0 0 s ≡ 0
  none-reached s = rw (le-ltb s 0 (omega arith)) refl

  no-share : (i : ℕ) → share t.cells.block t.cells.lost i ≡ 0
  no-share i =
      ⊎_elim (λ p. omega arith)
      (λ (p : 1 ≤ share t.cells.block t.cells.lost i).
      let w = share-some t.cells.block t.cells.lost i p in absurd (omega (arith, w.1.1.1, closed w.0)))
      (lt_or_ge (share t.cells.block t.cells.lost i) 1)

  -- a heavy block has two losses or more
  not_one : (s : ℕ) → get_or t.left s 0 ≡ 1 → ⊥
  not_one s e = ⊎_elim (λ k. omega (arith, q.many s k)) (λ k. omega (arith, q.spare s k)) (lt_or_ge s heavy.n)

  pub starts-sound : (m : ℕ) → in_all (take l.l1 counts) ≤ 12 → Sound l m heavy t
  starts-sound m h =
      record {
        few = omega (arith, q.few);
        inside = q.inside;
        ascending = q.ascending;
        placed = λ z o. absurd (omega (arith, closed z, o.1));
        room = omega (arith, q.total);
        fresh = λ z k. closed z;
        spare = q.spare;
        not_one = λ i e. let w = share_single heavy.block t.left i (omega (arith, no-share i)) in
            not_one w.0 w.1.1.1;
      }

  -- every row under the pattern is under it
  pub starts-under : (y : List ℕ) → l.l1 ≤ length counts → (row x : List ℕ) → Under l y counts l.l1 row x
      → UnderTable l y heavy 0 0 t row x
  starts-under y room row x u =
      record {
        ends = λ s k. u.own (get_or heavy.block s 0 + 1) (omega (arith, q.inside s k)) ∙ sym (q.end s k);
        shifts = λ s k.
            let b : ℕ = get_or heavy.block s 0 in
            let i : b < l.l1 = q.inside s k in
            let n : (b * l.l2 + reached 0 0 s) * l.nc ≡ b * block_bits l =
            rw (none-reached s, add-zero) (mul_assoc b l.l2 l.nc) in
            let o = ap (λ (p : ℕ). losses (take p x) y) n ∙ u.own b (omega arith) in
            omega (arith, o, q.lost s k, q.end s k, total-next counts b (omega arith));
        decided = record {
          at = λ i c h k. ⊎_elim
              (λ (p : get_or counts i 0 < 2). inr (u.light i c h k (omega arith)))
              (λ (p : 2 ≤ get_or counts i 0).
              let w = q.every i h p in inl (inl (w.0, (w.1.0, (w.1.1, omega (arith, none-reached w.0))))))
              (lt_or_ge (get_or counts i 0) 2);
        };
        loses = λ z o. absurd (omega (arith, closed z, o.1));
      }
