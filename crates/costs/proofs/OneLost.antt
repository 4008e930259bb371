-- A chunk that lost one bit, matched against the received row: how many ones it has, and what it brings. Rests on
-- the laws of the crate weigh. Assumes nothing.
use Rattle.std.proofs.Common.{ℕ, ◌+◌, ◌-◌, ◌*◌, ◌/◌, ◌≤◌, ◌≡◌, ap, ◌∙◌, List, arith, take, drop}
use Rattle.bits.specs.Bits.{digits}
use Rattle.vt.specs.Ones.{ones}
use Rattle.vt.specs.Sum.{total}
use Rattle.message.specs.declared.Layout.{Layout}
use Rattle.consistent.specs.Greedy.{losses}
use Rattle.weigh.specs.Weigh.{SeenIn, MoreOnes, Wider}
use Rattle.weigh.specs.declared.Seen.{Seen}
use Rattle.weigh.specs.declared.Span.{Span}
use Rattle.weigh.proofs.Spans.{ones_between, one_wider}
use Rattle.column.specs.Column.{start_at}
use Rattle.costs.specs.Costs.{Repairs}

module _ {l : Layout} {y : List ℕ} {block end j left sum : ℕ} {set : List ℕ} {v part : ℕ}
    (r : Repairs l y block end j left sum set v part) (some : 1 ≤ l.nc)
    (at : ℕ) (place : at ≡ start_at l block j left - end)
    {seen : Seen} (i : SeenIn (take (l.nc - 1) (drop at y)) (l.nc - 1) seen) where
  loses : losses (digits l.nc v) (drop at y) ≡ 1
  loses = ap (λ (p : ℕ). losses (digits l.nc v) (drop p y)) place ∙ r.loses

  -- it has at least the first number of ones more than the bits that it takes, and at most the last
  pub lost_between : {first last : ℕ} → MoreOnes y at (l.nc - 1) 1 first last
      → (seen.ones + first ≤ ones (digits l.nc v)) × (ones (digits l.nc v) ≤ seen.ones + last)
  lost_between more = ones_between l.nc 1 v at y some loses i more

  -- with just g of them it brings what lies in the span, its block being number k
  pub brings_between : (k g : ℕ) (span wider : Span) → k ≡ block → span.low ≡ 0 → span.high ≡ 0
      → ones (digits l.nc v) ≡ seen.ones + g → Wider l.nc (k * l.nc) 1 seen g span wider
      → (wider.low / 2 ≤ total (block * l.nc + 1) (digits l.nc v))
      × (total (block * l.nc + 1) (digits l.nc v) ≤ wider.high / 2)
  brings_between k g span wider e low high just w =
      let o = one_wider l.nc (block * l.nc) 1 v (drop at y) loses seen g span wider some i just (rw e at w) in
      (omega (arith, o.0), omega (arith, o.1))
