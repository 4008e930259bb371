-- The first refusal of a list of checks. Assumes nothing.
use Prim.Native.Nat.{◌≤◌}
use mathlib.Core.Path.{◌≡◌, refl}
use mathlib.Core.Bool.{Bool, true, false, cond}
use mathlib.Core.List.{List, [], ◌∷◌, ◌++◌}
use native.Mathlib.Omega.{arith}
use Rattle.refusal.specs.Refusal.{number_of, Check, first_refusal}
use Rattle.refusal.specs.declared.Refusal.TheVariants.{NoMessage, Version, Layout, MessageLength, Sum, SpareBit, Losses, Packing, ListFull, ShortTarget}
use Rattle.refusal.specs.declared.Refusal.{Refusal}

-- each check has a number of the table
abbrev pub Numbered : List Check → Type 0
Numbered [] = Unit
Numbered (c ∷ cs) = (c.0 ≡ 0 → ⊥) × Numbered cs

-- what an earlier check refuses, later checks do not change
pub refused_before : (cs ds : List Check) → (first_refusal cs ≡ 0 → ⊥) → first_refusal (cs ++ ds) ≡ first_refusal cs
unfolding first_refusal
refused_before [] ds n = absurd (n refl)
refused_before (c ∷ cs) ds n = go c.1 n (refused_before cs ds)
  where
    go : (t : Bool) → (cond t c.0 (first_refusal cs) ≡ 0 → ⊥)
        → ((first_refusal cs ≡ 0 → ⊥) → first_refusal (cs ++ ds) ≡ first_refusal cs)
        → cond t c.0 (first_refusal (cs ++ ds)) ≡ cond t c.0 (first_refusal cs)
    go true n ih = refl
    go false n ih = ih n

-- where the earlier checks pass, the later ones decide
pub passed_before : (cs ds : List Check) → Numbered cs → first_refusal cs ≡ 0 → first_refusal (cs ++ ds) ≡ first_refusal ds
unfolding first_refusal
passed_before [] ds k e = refl
passed_before (c ∷ cs) ds k e = go c.1 e (passed_before cs ds k.1)
  where
    go : (t : Bool) → cond t c.0 (first_refusal cs) ≡ 0
        → (first_refusal cs ≡ 0 → first_refusal (cs ++ ds) ≡ first_refusal ds)
        → cond t c.0 (first_refusal (cs ++ ds)) ≡ first_refusal ds
    go true e ih = absurd (k.0 e)
    go false e ih = ih e

-- a check that passed has a condition that does not hold
pub passed : (c : Check) (cs : List Check) → (c.0 ≡ 0 → ⊥) → first_refusal (c ∷ cs) ≡ 0
    → (c.1 ≡ false) × (first_refusal cs ≡ 0)
unfolding first_refusal
passed c cs n e = go c.1 refl e
  where
    go : (t : Bool) → c.1 ≡ t → cond t c.0 (first_refusal cs) ≡ 0 → (c.1 ≡ false) × (first_refusal cs ≡ 0)
    go true h e = absurd (n e)
    go false h e = (h, e)

-- where all checks pass, the earlier ones do
pub passed_first : (cs ds : List Check) → first_refusal (cs ++ ds) ≡ 0 → first_refusal cs ≡ 0
unfolding first_refusal
passed_first [] ds e = refl
passed_first (c ∷ cs) ds e = go c.1 e (passed_first cs ds)
  where
    go : (t : Bool) → cond t c.0 (first_refusal (cs ++ ds)) ≡ 0 → (first_refusal (cs ++ ds) ≡ 0 → first_refusal cs ≡ 0)
        → cond t c.0 (first_refusal cs) ≡ 0
    go true e f = e
    go false e f = f e

-- no refusal has the number 0
pub numbered : (q : Refusal) → 1 ≤ number_of q
numbered NoMessage = omega arith
numbered Version = omega arith
numbered Layout = omega arith
numbered MessageLength = omega arith
numbered Sum = omega arith
numbered SpareBit = omega arith
numbered Losses = omega arith
numbered Packing = omega arith
numbered ListFull = omega arith
numbered ShortTarget = omega arith
