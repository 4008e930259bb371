-- Numbers among the entries of a list from one place to another, and what holds of its first entries: how they grow by an
-- entry. Assumes nothing.
use Prim.Native.Nat.{ℕ, ◌+◌, ◌<◌}
use mathlib.Core.Path.{◌≡◌, sym, ap, subst, ◌∙◌}
use mathlib.Core.Logic.{◌⊎◌, inl, inr}
use mathlib.Core.List.{List}
use native.Mathlib.Decide.{ℕ_discrete}
use native.Mathlib.Omega.{arith}
use lib.ListN.{length, get_or, set}
use lib.Seq.{get_or-set_same, get_or-set_other}
use Rattle.contents.specs.Contents.{Among}

-- one that is among those with an entry more is among the others, or is that entry
pub among_next : (list : List ℕ) (low k v : ℕ) → Among list low (k + 1) v → Among list low k v ⊎ (get_or list k 0 ≡ v)
among_next list low k v (i, (above, (below, is))) = go (ℕ_discrete i k)
  where
    go : Dec (i ≡ k) → Among list low k v ⊎ (get_or list k 0 ≡ v)
    go (yes e) = inr (ap (λ (n : ℕ). get_or list n 0) (sym e) ∙ is)
    go (no e) = inl (i, (above, (omega arith, is)))

-- what holds of the first s entries of a list, and of the one that is put at s, holds of the first s + 1
pub put_next : (xs : List ℕ) (s v t : ℕ) (P : ℕ → Type 0) → s < length xs → t < s + 1 → (t < s → P (get_or xs t 0))
    → (t ≡ s → P v) → P (get_or (set xs s v) t 0)
put_next xs s v t P inside h old new = go (ℕ_discrete t s)
  where
    go : Dec (t ≡ s) → P (get_or (set xs s v) t 0)
    go (yes e) =
        subst P (sym (ap (λ (n : ℕ). get_or (set xs s v) n 0) e ∙ get_or-set_same xs s v 0 inside)) (new e)
    go (no e) = subst P (sym (get_or-set_other xs s t v 0 e)) (old (omega arith))
