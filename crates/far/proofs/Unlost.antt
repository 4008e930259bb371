-- A row that loses no bit of a chunk has there what is read. Rests on greedy matching, by the crate column. Assumes
-- nothing.
use Prim.Native.Nat.{ℕ, ◌<◌, ◌≤◌}
use mathlib.Core.Path.{◌≡◌, ap, ◌∙◌}
use mathlib.Core.Bool.{Bool, true, false, cond}
use mathlib.Core.List.{List}
use native.Mathlib.Omega.{arith}
use lib.Dec.{eqb}
use lib.ListN.{get_or}
use Rattle.message.specs.declared.Layout.{Layout}
use Rattle.lines.specs.Lines.{unlike}
use Rattle.column.specs.Column.{chunk_at, Crosses}
use Rattle.column.specs.declared.Heavy.{Heavy}
use Rattle.column.proofs.Rows.{no_loss}
use Rattle.far.specs.Far.{Reads, read_apart}

-- a chunk counts once at most
pub one-most : (b : Bool) → cond b 0 1 ≤ 1
one-most true = omega arith
one-most false = omega arith

module _ {l : Layout} {y numbers : List ℕ} {heavy : Heavy} {row : List ℕ} {j : ℕ} {left next : ℕ → ℕ} {vs : List ℕ}
    (c : Crosses l y numbers heavy row j left next vs) (s : ℕ) (h : s < heavy.n) (e : next s ≡ left s) where
  -- a chunk that loses no bit is read where the losses left say
  pub reads-there : Reads l y heavy s j (left s)
  reads-there = (c.starts s h, omega (arith, c.there s h, e))

  pub reads_same : (z : List ℕ) → unlike vs z (chunk_at l heavy j s) ≡ read_apart l y heavy z s j (left s)
  reads_same z =
      let is = no_loss l.nc _ _ (c.small s h) (c.loses s h ∙ omega (arith, e)) in
      ap (λ (v : ℕ). cond (eqb v (get_or z (chunk_at l heavy j s) 0)) 0 1) is
