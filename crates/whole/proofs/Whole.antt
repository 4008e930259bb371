-- A row that crosses a column: what its chunks in the heavy blocks bring makes up the sum, and those that lose no bit
-- are read whole and bring what is read. Rests on the laws of the crate column. Assumes nothing.
use Prim.Native.Nat.{ℕ, zero, suc, ◌+◌, ◌-◌, ◌*◌, ◌%◌, ◌<◌}
use mathlib.Core.Path.{◌≡◌, refl, sym, ap, ◌∙◌}
use mathlib.Core.List.{List}
use native.Mathlib.Omega.{arith}
use lib.ListN.{length, get_or, take, drop}
use Rattle.bits.specs.Bits.{digits}
use Rattle.bits.proofs.Laws.{length_digits}
use Rattle.vt.specs.Sum.{total}
use Rattle.message.specs.declared.Layout.{Layout}
use Rattle.consistent.specs.Greedy.{losses}
use Rattle.consistent.proofs.Greedy.{whole}
use Rattle.weigh.specs.Weigh.{brought}
use Rattle.states.specs.States.{firsts}
use Rattle.column.specs.Column.{Fit, Light, Crosses, read_from, value_at}
use Rattle.column.specs.declared.Heavy.{Heavy}
use Rattle.column.proofs.Rows.{crosses-readable, crosses-brings}
use Rattle.whole.specs.Whole.{modulus, legible_in, brings, brings_in}

-- ---- a row that crosses a column
module _ {l : Layout} {y numbers : List ℕ} {heavy : Heavy} {row : List ℕ} {j : ℕ} {left next : ℕ → ℕ} {vs : List ℕ}
    (c : Crosses l y numbers heavy row j left next vs) where
  -- what its chunk in heavy block s brings
  abbrev pub weightOf : ℕ → ℕ
  weightOf s = total (get_or heavy.block s 0 * l.nc + 1) (digits l.nc (value_at l heavy vs j s))

  all-brought : (k : ℕ) → brought l.nc heavy.block (value_at l heavy vs j) k ≡ firsts weightOf k
  unfolding brought firsts
  all-brought zero = refl
  all-brought (suc k) = omega (arith, all-brought k)

  -- its chunks bring what the sum of the others lacks
  pub weights-sum : Fit l y numbers heavy → j < l.l2 → (known : List ℕ) → Light l heavy row known
      → (get_or known j 0 + firsts weightOf heavy.n) % modulus l ≡ get_or numbers (l.l1 + j) 0
  weights-sum f inside known light =
      ap (λ (v : ℕ). (get_or known j 0 + v) % modulus l) (sym (all-brought heavy.n))
      ∙ crosses-brings c f inside known light heavy.n heavy.block refl refl

  module _ (s : ℕ) (h : s < heavy.n) (kept : next s ≡ left s) where
    -- a chunk that loses no bit can be read whole
    pub kept-legible : legible_in l (length y) heavy j left s
    kept-legible = rw kept at (crosses-readable c s h)

    -- and brings what is read
    pub kept_read : weightOf s ≡ brings_in l y heavy j left s
    unfolding brings
    kept_read =
        let own = digits l.nc (value_at l heavy vs j s) in
        let rest = drop (read_from l heavy left j s - get_or heavy.end s 0) y in
        let z : losses own rest ≡ 0 = c.loses s h ∙ omega (arith, kept) in
        ap (total (get_or heavy.block s 0 * l.nc + 1))
        (whole own rest z ∙ ap (λ (n : ℕ). take n rest) (length_digits l.nc (value_at l heavy vs j s)))
