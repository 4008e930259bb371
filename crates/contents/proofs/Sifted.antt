-- Entries that are sifted one by one: those that a line allows go to the front. Assumes nothing.
use Prim.Native.Nat.{ℕ, ◌+◌, ◌<◌, ◌≤◌}
use mathlib.Core.Path.{◌≡◌, sym, ◌∙◌}
use mathlib.Core.Logic.{⊎_elim}
use mathlib.Core.List.{List}
use native.Mathlib.Omega.{arith}
use lib.ListN.{length, get_or, set, length-set}
use lib.Seq.{get_or-set_same, get_or-set_other}
use Rattle.bits.proofs.Laws.{lt_or_ge}
use Rattle.contents.specs.Asks.{Allows}
use Rattle.contents.specs.Contents.{Among}
use Rattle.contents.specs.declared.Ask.{Ask}

-- the first i entries are sifted: those allowed are among the first k, and the entries from i on are as they were
pub record Sifted (nc : ℕ) (a : Ask) (entry : List ℕ) (i : ℕ) (exit : List ℕ) (k : ℕ) : Type 0 where
  pub few : k ≤ i
  pub long : length exit ≡ length entry
  pub later : (j : ℕ) → i ≤ j → get_or exit j 0 ≡ get_or entry j 0
  pub all : (w : ℕ) → Among entry 0 i w → Allows nc a w → Among exit 0 k w

module _ (nc : ℕ) (a : Ask) (entry : List ℕ) (i : ℕ) (exit : List ℕ) (k : ℕ) (s : Sifted nc a entry i exit k) where
  -- an entry that is kept
  pub sifted_kept : i < length entry → Sifted nc a entry (i + 1) (set exit k (get_or exit i 0)) (k + 1)
  sifted_kept h =
      record {
        few = omega (arith, s.few);
        long = length-set exit k (get_or exit i 0) ∙ s.long;
        later =
            λ j g. get_or-set_other exit k j (get_or exit i 0) 0 (λ e. omega (arith, s.few)) ∙ s.later j (omega arith);
        all = λ w m allows. ⊎_elim (earlier w m allows) (this w m) (lt_or_ge m.0 i);
      }
    where
      earlier : (w : ℕ) (m : Among entry 0 (i + 1) w) → Allows nc a w → m.0 < i
          → Among (set exit k (get_or exit i 0)) 0 (k + 1) w
      earlier w m allows g =
          let n = s.all w (m.0, (m.1.0, (g, m.1.1.1))) allows in
          let other = get_or-set_other exit k n.0 (get_or exit i 0) 0 (λ e. omega (arith, n.1.1.0)) in
          (n.0, (n.1.0, (omega (arith, n.1.1.0), other ∙ n.1.1.1)))

      this : (w : ℕ) (m : Among entry 0 (i + 1) w) → i ≤ m.0 → Among (set exit k (get_or exit i 0)) 0 (k + 1) w
      this w m g =
          let e : m.0 ≡ i = omega (arith, m.1.1.0) in
          let same = get_or-set_same exit k (get_or exit i 0) 0 (omega (arith, s.few, s.long)) in
          (k, (omega arith, (omega arith, same ∙ s.later i (omega arith) ∙ rw e at m.1.1.1)))

  -- an entry that is left out
  pub sifted_left : (Allows nc a (get_or exit i 0) → ⊥) → Sifted nc a entry (i + 1) exit k
  sifted_left refused =
      record {
        few = omega (arith, s.few);
        long = s.long;
        later = λ j g. s.later j (omega arith);
        all = λ w m allows. ⊎_elim
            (λ g. s.all w (m.0, (m.1.0, (g, m.1.1.1))) allows)
            (λ g. absurd (refused (rw (sym (this w m g)) at allows)))
            (lt_or_ge m.0 i);
      }
    where
      this : (w : ℕ) (m : Among entry 0 (i + 1) w) → i ≤ m.0 → get_or exit i 0 ≡ w
      this w m g =
          let e : m.0 ≡ i = omega (arith, m.1.1.0) in
          s.later i (omega arith) ∙ rw e at m.1.1.1
