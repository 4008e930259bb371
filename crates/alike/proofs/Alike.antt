-- In how many chunks of a column a row can differ from another one, and how these add up along its columns. Assumes nothing.
use Rattle.std.proofs.Common.{ℕ, zero, suc, ◌+◌, ◌*◌, ◌<◌, ◌≤◌, ◌≡◌, ap, ⊎_elim, List, mul-le-mul_left, mul-add, mul-one, arith, get_or, eqb}
use Rattle.std.proofs.Math.Decide.{dec_lt}
use Rattle.message.specs.declared.Layout.{Layout}
use Rattle.lines.specs.Lines.{unlike}
use Rattle.states.specs.States.{firsts}
use Rattle.states.proofs.Sums.{firsts_same}
use Rattle.column.specs.Column.{chunk_at, Crosses, apart_in}
use Rattle.column.specs.declared.Heavy.{Heavy}
use Rattle.far.proofs.Unlost.{one-most}
use Rattle.costs.proofs.Costs.{kept_or_fewer}

module _ (l : Layout) (heavy : Heavy) (z vs : List ℕ) (j : ℕ) where
  -- there are no more than the heavy blocks
  pub apart-few : (n : ℕ) → apart_in l heavy z vs j n ≤ n
  unfolding apart_in
  apart-few zero = omega arith
  apart-few (suc n) =
      omega (arith, apart-few n, one-most (eqb (get_or vs (chunk_at l heavy j n) 0) (get_or z (chunk_at l heavy j n) 0)))

  -- and where there is one, the chunk of some block is
  pub apart_some : (n : ℕ) → 0 < apart_in l heavy z vs j n
      → (s : ℕ) × ((s < n) × (0 < unlike vs z (chunk_at l heavy j s)))
  unfolding apart_in
  apart_some zero h = absurd (omega arith)
  apart_some (suc n) h = go (dec_lt 0 (unlike vs z (chunk_at l heavy j n))) (λ k. apart_some n k)
    where
      go : Dec (0 < unlike vs z (chunk_at l heavy j n))
          → (0 < apart_in l heavy z vs j n → (s : ℕ) × ((s < n) × (0 < unlike vs z (chunk_at l heavy j s))))
          → (s : ℕ) × ((s < suc n) × (0 < unlike vs z (chunk_at l heavy j s)))
      go (yes d) before = (n, (omega arith, d))
      go (no d) before = let r = before (omega arith) in (r.0, (omega (arith, r.1.0), r.1.1))

-- a row counts no more up to a column, with all blocks for each loss that is left, than so many; so it does behind the
-- column, if so many are added where it can differ there without a loss
pub counts-next : {l : Layout} {y numbers : List ℕ} {heavy : Heavy} {row : List ℕ} {j : ℕ} {left next : ℕ → ℕ}
    {vs : List ℕ}
    → Crosses l y numbers heavy row j left next vs → (z : List ℕ) (counted most more : ℕ)
    → counted + heavy.n * firsts left heavy.n ≤ most
    → most ≤ more
    → (((s : ℕ) → s < heavy.n → next s ≡ left s) → 0 < apart_in l heavy z vs j heavy.n → most + heavy.n ≤ more)
    → counted + apart_in l heavy z vs j heavy.n + heavy.n * firsts next heavy.n ≤ more
counts-next {l} {heavy = heavy} {j = j} {left = left} {next = next} {vs = vs} c z counted most more h up can =
    ⊎_elim kept fewer (kept_or_fewer left next n c.falls)
  where
    n : ℕ
    n = heavy.n

    a : ℕ
    a = apart_in l heavy z vs j n

    kept : ((s : ℕ) → s < n → next s ≡ left s) → counted + a + n * firsts next n ≤ more
    kept same =
        let e : n * firsts next n ≡ n * firsts left n = ap (λ (v : ℕ). n * v) (firsts_same next left n same) in
        go (dec_lt 0 a) e
      where
        go : Dec (0 < a) → n * firsts next n ≡ n * firsts left n → counted + a + n * firsts next n ≤ more
        go (yes d) e = omega (arith, e, h, apart-few l heavy z vs j n, can same d)
        go (no d) e = omega (arith, e, h, up)

    fewer : firsts next n < firsts left n → counted + a + n * firsts next n ≤ more
    fewer f =
        let m : n * (firsts next n + 1) ≤ n * firsts left n = mul-le-mul_left n (omega (arith, f)) in
        omega (arith, m, mul-add n (firsts next n) 1, mul-one n, h, up, apart-few l heavy z vs j n)
