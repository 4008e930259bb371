-- How many of the cells are open: so many of their losses are not 0. Assumes nothing.
use Prim.Native.Nat.{ℕ, zero, suc, ◌+◌, ◌<◌, ◌≤◌}
use mathlib.Core.Path.{◌≡◌, refl}
use mathlib.Core.Bool.{cond}
use mathlib.Core.List.{List, [], ◌∷◌}
use native.Mathlib.Numerals.{add-one}
use native.Mathlib.Omega.{arith}
use borrow.Author.Tests.{ne_eqb}
use lib.Dec.{eqb}
use lib.ListN.{length, get_or, drop}
use lib.Seq.{drop-cons}
use Rattle.erasures.specs.Erasures.{weight}

-- ---- cell by cell
pub weight-next : (lost : List ℕ) (z : ℕ) → z < length lost
    → weight (drop z lost) ≡ cond (eqb (get_or lost z 0) 0) 0 1 + weight (drop (z + 1) lost)
unfolding weight
weight-next lost z h = rw (drop-cons lost z 0 h, add-one z) refl

-- ---- none and some
pub weight-none : (lost : List ℕ) → weight lost ≡ 0 → (z : ℕ) → get_or lost z 0 ≡ 0
unfolding weight
weight-none [] e z = refl
weight-none (zero ∷ lost) e zero = refl
weight-none (zero ∷ lost) e (suc z) = weight-none lost (omega arith) z
weight-none (suc a ∷ lost) e z = absurd (omega (arith, rw (ne_eqb (suc a) 0 (λ f. omega arith)) at e))

pub weight-some : (lost : List ℕ) → 0 < weight lost → (z : ℕ) × ((z < length lost) × (0 < get_or lost z 0))
unfolding weight
weight-some [] h = absurd (omega arith)
weight-some (zero ∷ lost) h = let q = weight-some lost (omega arith) in (suc q.0, (omega (arith, q.1.0), q.1.1))
weight-some (suc a ∷ lost) h = (0, (omega arith, omega arith))
