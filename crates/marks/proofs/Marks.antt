-- What a mark covers, and the marks of one column made anew. Assumes nothing.
use Prim.Native.Nat.{ℕ, ◌+◌, ◌*◌, ◌<◌, ◌≤◌}
use mathlib.Core.Path.{◌≡◌, refl, ◌∙◌}
use mathlib.Core.Logic.{◌⊎◌, inl, inr, ⊎_elim}
use mathlib.Core.List.{List}
use native.Mathlib.Decide.{dec_lt}
use native.Mathlib.Nat.{mul-le-mul_right}
use native.Mathlib.Omega.{arith}
use lib.ListN.{length, get_or, set, length-set}
use lib.Seq.{get_or-set_other}
use Rattle.marks.specs.Marks.{many, Covers, Remade}

-- a higher mark covers as much
pub covers_more : (a b n : ℕ) → a ≤ b → Covers a n → Covers b n
covers_more a b n h c = (omega (arith, c.0), ⊎_elim (λ u. inl (omega arith)) (λ u. inr (omega arith)) c.1)

-- and a mark covers what is no more
pub covers_less : (a m n : ℕ) → n ≤ m → Covers a m → Covers a n
covers_less a m n h c = (c.0, ⊎_elim (λ u. inl (omega arith)) (λ u. inr u) c.1)

-- and as much from its floor on if it is kept where it is above the floor
pub covers_kept : (fresh floor mark n : ℕ) → floor < many → (floor < fresh → mark ≡ fresh) → floor ≤ n → Covers fresh n
    → Covers mark n
covers_kept fresh floor mark n low kept h c =
    let is = kept (⊎_elim (λ u. omega arith) (λ u. omega arith) c.1) in
    rw is c

-- ---- the marks of one column
module _ (states at : ℕ) (entry : List ℕ) where
  pub remade_none : Remade states at entry entry
  remade_none = record { long = refl; others = λ i h. refl }

  -- one mark of the column more
  pub remade_set : (marks : List ℕ) → Remade states at entry marks → (p v : ℕ) → p < states
      → Remade states at entry (set marks (at + p) v)
  remade_set marks r p v h =
      record {
        long = length-set marks (at + p) v ∙ r.long;
        others = λ i o.
            get_or-set_other marks (at + p) i v 0 (λ e. ⊎_elim (λ u. omega arith) (λ u. omega arith) o) ∙ r.others i o;
      }

-- the marks of another column are unchanged
pub other-column : (states c at : ℕ) (entry marks : List ℕ) → at ≡ c * states → Remade states at entry marks
    → (i p : ℕ) → (i ≡ c → ⊥) → p < states → get_or marks (i * states + p) 0 ≡ get_or entry (i * states + p) 0
other-column states c at entry marks e r i p n h = r.others (i * states + p) (go (dec_lt i c))
  where
    go : Dec (i < c) → (i * states + p < at) ⊎ (at + states ≤ i * states + p)
    go (yes d) = inl (omega (arith, mul-le-mul_right {m = i + 1} {n = c} states (omega arith)))
    go (no d) = inr (omega (arith, mul-le-mul_right {m = c + 1} {n = i} states (omega arith)))

-- two columns, one after the other, stand in marks that have room for all
pub two_columns : (states j columns : ℕ) (marks : List ℕ) → j < columns → (columns + 1) * states ≤ length marks
    → (j + 1) * states + states ≤ length marks
two_columns states j columns marks h room =
    omega (arith, mul-le-mul_right {m = j + 2} {n = columns + 1} states (omega arith))
