-- The blocks of a consistent row: their losses, one after another, are all the bits that were deleted, and where a
-- block is tried with its own losses, it is found. Rests on what is known of a consistent row (found) and on greedy
-- matching (consistent). Assumes nothing.
use Prim.Native.Nat.{ℕ, zero, suc, ◌+◌, ◌-◌, ◌*◌, ◌<◌, ◌≤◌}
use mathlib.Core.Path.{◌≡◌, refl, sym, ap, ◌∙◌}
use mathlib.Core.Bool.{Bool, true}
use mathlib.Core.List.{List, [], ◌∷◌}
use native.Mathlib.Nat.{add-mul, one-mul, mul_assoc}
use native.Mathlib.Omega.{arith}
use lib.ListN.{length, get_or, take, drop}
use lib.Seq.{take_all, drop-drop}
use Rattle.bits.specs.Bits.{number}
use Rattle.message.specs.Layout.{row_bits, block_bits}
use Rattle.message.specs.declared.Layout.{Layout}
use Rattle.message.proofs.Cutting.{block_room, length_block, bits_block, block_sum_at}
use Rattle.message.proofs.Fields.{field_room}
use Rattle.consistent.specs.Greedy.{losses}
use Rattle.consistent.proofs.Greedy.{comes-losses}
use Rattle.consistent.proofs.Shift.{lost-more}
use Rattle.lines.specs.Lines.{values}
use Rattle.lines.proofs.Lines.{value-at}
use Rattle.found.specs.Found.{Given, Sent}
use Rattle.found.proofs.Found.{sent_parts}
use Rattle.pieces.specs.Pieces.{Loses, Tried}
use Rattle.search.specs.Patterns.{lost_in}

-- ---- numbers that stand inside a piece
number_front : (k n : ℕ) (z : List ℕ) → k ≤ n → number k (take n z) ≡ number k z
unfolding number
number_front zero n z h = refl
number_front (suc k) zero z h = absurd (omega arith)
number_front (suc k) (suc n) [] h = refl
number_front (suc k) (suc n) (b ∷ z) h = rw (number_front k n z (omega arith)) refl

number-inside : (k d n : ℕ) (z : List ℕ) → d + k ≤ n → number k (drop d (take n z)) ≡ number k (drop d z)
number-inside k zero n z h = number_front k n z (omega arith)
number-inside k (suc d) zero z h = absurd (omega arith)
number-inside k (suc d) (suc n) [] h = refl
number-inside k (suc d) (suc n) (b ∷ z) h = number-inside k d n z (omega arith)

-- ---- a consistent row
module _ {l : Layout} {numbers y : List ℕ} (given : Given l numbers y) (x : List ℕ) (sent : Sent l numbers y x) where
  -- it loses the deleted bits
  row-loses : losses x y ≡ row_bits l - length y
  row-loses = comes-losses x (row_bits l - length y) y (sent_parts given x sent).comes

  -- no more are lost up to a place
  all-lost : (s : ℕ) → s ≤ length x → losses (take s x) y ≤ row_bits l - length y
  all-lost s h =
      let w : ℕ = length x - s in
      let t : losses (take (s + w) x) y ≡ losses x y =
      ap (λ (z : List ℕ). losses z y) (take_all (s + w) x (omega arith)) in
      omega (arith, lost-more x y s w h, row-loses)

  -- all blocks lose all
  pub blocks-lose : losses (take (l.l1 * block_bits l) x) y ≡ row_bits l - length y
  blocks-lose =
      let e : length x ≤ l.l1 * block_bits l = omega (arith, sent.0.0, mul_assoc l.l1 l.l2 l.nc) in
      ap (λ (z : List ℕ). losses z y) (take_all (l.l1 * block_bits l) x e) ∙ row-loses

  -- block i, where the blocks before it lose the total
  module _ (i total : ℕ) (h : i < l.l1) (e : losses (take (i * block_bits l) x) y ≡ total) where
    block-end : i * block_bits l + block_bits l ≡ (i + 1) * block_bits l
    block-end = omega (arith, add-mul i 1 (block_bits l), one-mul (block_bits l))

    -- the losses up to its end
    pub lost-next : losses (take ((i + 1) * block_bits l) x) y ≡ total + lost_in l y i total x
    lost-next =
        let r = block_room l x sent.0.0 i h in
        ap (λ (n : ℕ). losses (take n x) y) (sym block-end)
        ∙ rw e at (lost-more x y (i * block_bits l) (block_bits l) (omega arith))

    pub lost-most : total + lost_in l y i total x ≤ row_bits l - length y
    lost-most =
        let r = block_room l x sent.0.0 i h in
        omega (arith, lost-next, all-lost ((i + 1) * block_bits l) (omega (arith, block-end)))

    -- the last block loses the rest
    pub lost-last : i + 1 ≡ l.l1 → total + lost_in l y i total x ≡ row_bits l - length y
    lost-last k = sym lost-next ∙ ap (λ (n : ℕ). losses (take (n * block_bits l) x) y) k ∙ blocks-lose

    -- tried with a losses against the bits from its first on
    module _ {a : ℕ} {rest entry exit : List ℕ} {ok : Bool} (t : Tried l (get_or numbers i 0) i a rest entry exit ok)
        (reads : rest ≡ drop (i * block_bits l - total) y) (own : lost_in l y i total x ≡ a) where
      loses : Loses l (get_or numbers i 0) a rest (take (block_bits l) (drop (i * block_bits l) x))
      loses =
          record {
            bits = bits_block l x sent.0.1 i;
            size = length_block l x sent.0.0 i h;
            has_sum = sym (block_sum_at l x i h) ∙ (sent_parts given x sent).blocks i h;
            own = rw reads own;
          }

      -- where these are its own, it can lose them
      pub tried_can : ok ≡ true
      tried_can = t.can (take (block_bits l) (drop (i * block_bits l) x)) loses

      -- and with none or one it stands in the row in hand
      pub tried_light : a ≤ 1 → (j : ℕ) → j < l.l2 → get_or (values l x) (i * l.l2 + j) 0 ≡ get_or exit (i * l.l2 + j) 0
      tried_light low j k =
          let b : List ℕ = drop (i * block_bits l) x in
          let c : i * l.l2 + j < l.l1 * l.l2 = omega (arith, field_room l.l1 l.l2 i h) in
          let m : (i * l.l2 + j) * l.nc ≡ i * block_bits l + j * l.nc =
          omega (arith, add-mul (i * l.l2) j l.nc, mul_assoc i l.l2 l.nc)
          in
          value-at l x (i * l.l2 + j) c
          ∙ ap (λ (n : ℕ). number l.nc (drop n x)) m
          ∙ ap (number l.nc) (sym (drop-drop (j * l.nc) (i * block_bits l) x))
          ∙ sym (number-inside l.nc (j * l.nc) (block_bits l) b (field_room l.l2 l.nc j k))
          ∙ sym (t.light (take (block_bits l) b) loses low j k)
