-- What the tactics leave open of `costs::repairs`. Rests on OneLost.antt.
use Rattle.std.proofs.Common.{◌≡◌, ℕ, ◌+◌, ◌*◌, ◌-◌, ◌≤◌, refl, sym, ◌∙◌, true≢false, arith}
use Rattle.std.proofs.Math.Nat.{mul-le-mul}
use borrow.Author.Tests.{not-false}
use Rattle.bits.specs.Bits.{digits}
use Rattle.vt.specs.Ones.{ones}
use Rattle.vt.specs.Sum.{total}
use Rattle.message.proofs.Legal.{Bounds, legal_bounds, chunk_lies}
use Rattle.column.specs.Column.{start_at}
use Rattle.costs.specs.Costs.{Repairs}
use Rattle.costs.proofs.OneLost.{lost_between, brings_between}
use Rattle.costs.proofs.repairs.Goals as goal
use Rattle.costs.proofs.repairs.Goals.{After-more_ones-more, Else-makes_up}

-- the layout is legal
bounds : (c : After-more_ones-more) → Bounds c.args.l
bounds c = legal_bounds c.args.l c.requires.0.allowed

-- the chunk's bits start where it has its place
place : (c : After-more_ones-more) → let a = c.args in c.place_of-p.result.at ≡ start_at a.l a.block a.j a.left - a.end
place c = c.place_of-p.ensures.at_just (not-false _ c.if-not-p.false)

-- the ones of a chunk that brings the column to its sum
between : (c : After-more_ones-more) → let a = c.args in
    (v part : ℕ) → Repairs a.l a.y.now a.block a.end a.j a.left a.sum a.set.now v part
    → (c.look-seen.result.ones + c.more_ones-more.result.first ≤ ones (digits a.l.nc v))
    × (ones (digits a.l.nc v) ≤ c.look-seen.result.ones + c.more_ones-more.result.last)
between c v part r =
    lost_between r (omega (arith, (bounds c).nc_low)) _ (place c) c.look-seen.ensures c.more_ones-more.ensures

pub loop-g-init : goal.loop-g-init
loop-g-init c v part r = (between (goal.at.loop-g-init c).After-more_ones-more v part r).0

pub widen-span-requires : goal.widen-span-requires
widen-span-requires c =
    let a = c.args in
    let p = c.requires.0 in
    let b = bounds (goal.at.widen-span-requires c).After-more_ones-more in
    let seen = c.look-seen.ensures in
    let keeps : a.l.nc - 1 ≤ 8 = omega (arith, b.nc_high) in (
      (b.nc_high, rw c.from.ensures (chunk_lies a.l p.allowed a.block a.j p.inside p.column).in_string),
      (
        (
          omega (arith, seen.count_small, b.nc_low),
          (omega (arith, seen.positions-small, mul-le-mul keeps keeps), omega (arith, c.more_ones-more.ensures.few)),
        ),
        (omega arith, omega arith),
      ),
    )

-- where a turn found nothing, a chunk that brings the column to its sum has more than g ones more
above : (c : Else-makes_up) → let a = c.args in
    (v part : ℕ) → Repairs a.l a.y.now a.block a.end a.j a.left a.sum a.set.now v part
    → c.look-seen.result.ones + (c.loop-g.g + 1) ≤ ones (digits a.l.nc v)
above c v part r =
    let a = c.args in
    let d = digits a.l.nc v in
    let just : ones d ≡ c.look-seen.result.ones + c.loop-g.g → ⊥ =
    λ q.
    let i = brings_between r (omega (arith, (legal_bounds a.l c.requires.0.allowed).nc_low)) _
    (c.place_of-p.ensures.at_just (not-false _ c.if-not-p.false)) c.look-seen.ensures c.from.result c.loop-g.g _
    c.widen-span.result c.from.ensures refl refl q c.widen-span.ensures in
    true≢false
    (sym (c.makes_up.ensures part (total (a.block * a.l.nc + 1) d) r.low r.among i.0 i.1 r.hits) ∙ c.if-makes_up.false) in
    omega (arith, c.loop-g.invariant v part r, just)

pub loop-g-preserved : goal.loop-g-preserved
loop-g-preserved c = above (goal.at.loop-g-preserved c).Else-makes_up

-- no number is tried
pub returns-else-not-p : goal.returns-else-not-p
returns-else-not-p c v part r =
    absurd (omega (
      arith,
      c.loop-g.invariant v part r,
      (between (goal.at.returns-else-not-p c).After-more_ones-more v part r).1,
    ))

-- the last number is passed
pub returns-else-makes_up : goal.returns-else-makes_up
returns-else-makes_up c v part r =
    absurd (omega (
      arith,
      above (goal.at.returns-else-makes_up c).Else-makes_up v part r,
      (between (goal.at.returns-else-makes_up c).After-more_ones-more v part r).1,
    ))
