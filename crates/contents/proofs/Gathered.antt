-- How steps that add entries join: one that adds none or one, and two one after another. Assumes nothing.
use Prim.Native.Nat.{ℕ, ◌+◌, ◌<◌, ◌≤◌}
use mathlib.Core.Path.{◌≡◌, refl, sym, ◌∙◌}
use mathlib.Core.Logic.{◌⊎◌, ⊎_elim}
use mathlib.Core.List.{List}
use native.Mathlib.Omega.{arith}
use lib.ListN.{length, set}
use lib.Seq.{get_or-set_same, get_or-set_other}
use Rattle.contents.specs.Contents.{Among, Gathered}

-- nothing is of the kind
pub gathered_none : {P : ℕ → Type 0} (most n : ℕ) (entries : List ℕ) → ((w : ℕ) → P w → ⊥)
    → Gathered P most n entries n entries
gathered_none most n entries none =
    record { from = omega arith; few = omega arith; kept = λ k h. refl; all = λ w p. absurd (none w p) }

-- v is the only number of the kind
pub gathered_one : {P : ℕ → Type 0} (most n v : ℕ) (entries : List ℕ) → 0 < most → n < length entries
    → ((w : ℕ) → P w → w ≡ v)
    → Gathered P most n entries (n + 1) (set entries n v)
gathered_one most n v entries h g only =
    record {
      from = omega arith;
      few = omega arith;
      kept = λ k i. get_or-set_other entries n k v 0 (λ e. omega arith);
      all = λ w p. (n, (omega arith, (omega arith, get_or-set_same entries n v 0 g ∙ sym (only w p))));
    }

-- two steps, one after the other
pub gathered_then : {P Q R : ℕ → Type 0} (most half n m l : ℕ) (a b c : List ℕ) → half + half ≤ most
    → Gathered P half n a m b → Gathered Q half m b l c → ((w : ℕ) → R w → P w ⊎ Q w) → Gathered R most n a l c
gathered_then {P} {Q} most half n m l a b c h g k either =
    record {
      from = omega (arith, g.from, k.from);
      few = omega (arith, g.few, k.few);
      kept = λ i s. k.kept i (omega (arith, g.from)) ∙ g.kept i s;
      all = λ w r. ⊎_elim (first w) (second w) (either w r);
    }
  where
    first : (w : ℕ) → P w → Among c n l w
    first w p =
        let i = g.all w p in
        (i.0, (i.1.0, (omega (arith, i.1.1.0, k.from), k.kept i.0 i.1.1.0 ∙ i.1.1.1)))

    second : (w : ℕ) → Q w → Among c n l w
    second w q =
        let i = k.all w q in
        (i.0, (omega (arith, i.1.0, g.from), i.1.1))

-- a step for all numbers of one kind is one for a narrower kind
pub gathered_weaken : {P Q : ℕ → Type 0} (most n m : ℕ) (a b : List ℕ) → ((w : ℕ) → Q w → P w) → Gathered P most n a m b
    → Gathered Q most n a m b
gathered_weaken most n m a b f g = record { from = g.from; few = g.few; kept = g.kept; all = λ w q. g.all w (f w q) }
