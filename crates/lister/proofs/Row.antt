-- The received row: what it is refused for by 7 and 8, and what a row that is not refused is. Assumes nothing.
use Prim.Native.Nat.{ℕ, ◌-◌, ◌*◌, ◌<◌, ◌≤◌}
use mathlib.Core.Path.{◌≡◌, refl, ap}
use mathlib.Core.Bool.{true, false, not, ◌||◌}
use mathlib.Core.List.{List, [], ◌∷◌}
use native.Mathlib.Omega.{arith}
use borrow.Author.Tests.{lt-ltb, le-ltb, ltb-false, not-false}
use lib.Dec.{ltb}
use lib.ListN.{length, take}
use lib.Seq.{length-take-le}
use Rattle.refusal.specs.Refusal.{Check, first_refusal}
use Rattle.refusal.proofs.Laws.{passed}
use Rattle.bits.specs.Bits.{unpack, fits}
use Rattle.bits.proofs.Laws.{neither_left, neither_right, length-unpack}
use Rattle.bits.proofs.Packing.{fits-length}
use Rattle.consistent.specs.Consistent.{most_losses, bits_of}
use Rattle.consistent.specs.List.{row_checks}
use Rattle.lister.specs.Rows.{row_refusal}

module _ (n : ℕ) (row : List ℕ) (m : ℕ) where
  -- more bits than were sent
  pub above : n < m → 7 ≡ row_refusal n row m
  unfolding row_refusal first_refusal
  above h = rw (lt-ltb n m h) refl

  -- more than 12 lost
  pub many : m ≤ n → most_losses < n - m → 7 ≡ row_refusal n row m
  unfolding row_refusal first_refusal
  many h k = rw (le-ltb n m h, lt-ltb most_losses (n - m) k) refl

  -- where neither is so, the packing decides
  pub unfit : m ≤ n → n - m ≤ most_losses → fits m row ≡ false → 8 ≡ row_refusal n row m
  unfolding row_refusal first_refusal
  unfit h k f = rw (le-ltb n m h, le-ltb most_losses (n - m) k, f) refl

  pub fit_row : m ≤ n → n - m ≤ most_losses → fits m row ≡ true → 0 ≡ row_refusal n row m
  unfolding row_refusal first_refusal
  fit_row h k f = rw (le-ltb n m h, le-ltb most_losses (n - m) k, f) refl

  -- what a row that is not refused is
  pub record FitRow : Type 0 where
    pub short : m ≤ n
    pub few : n - m ≤ most_losses
    pub is_packed : fits m row ≡ true

  pub row_passed : row_refusal n row m ≡ 0 → FitRow
  unfolding row_refusal
  row_passed e =
      let c8 : Check = (8, not (fits m row)) in
      let p7 = passed (7, ltb n m || ltb most_losses (n - m)) (c8 ∷ []) (λ z. omega arith) e in
      let p8 = passed c8 [] (λ z. omega arith) p7.1 in
      record {
        short = ltb-false n m (neither_left (ltb n m) (ltb most_losses (n - m)) p7.0);
        few = ltb-false most_losses (n - m) (neither_right (ltb n m) (ltb most_losses (n - m)) p7.0);
        is_packed = not-false (fits m row) p8.0;
      }

  -- its bytes hold its bits
  pub enough_bytes : fits m row ≡ true → m ≤ length row * 8
  enough_bytes f = omega (arith, fits-length m row f)

  pub length-bits : m ≤ length row * 8 → length (take m (unpack row)) ≡ m
  length-bits h = length-take-le m (unpack row) (omega (arith, length-unpack row))

-- the same checks by the message that names the layout
pub row-checks : (s row : List ℕ) (m n : ℕ) → bits_of s ≡ n → first_refusal (row_checks s row m) ≡ row_refusal n row m
unfolding row_checks row_refusal
row-checks s row m n e =
    ap (λ (k : ℕ). first_refusal ((7, ltb k m || ltb most_losses (k - m)) ∷ (8, not (fits m row)) ∷ [])) e
