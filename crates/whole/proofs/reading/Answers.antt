-- The chunk is read at its place, or it cannot be read whole.
use Rattle.std.proofs.Common.{true, ◌≡◌, ℕ, ◌+◌, ◌*◌, ◌<◌, ◌≤◌, take, drop, ap₂, ◌∙◌, arith}
use Rattle.std.proofs.Math.Nat.{mul-le-mul}
use Rattle.std.proofs.lemmas.Bool.{not-false}
use Rattle.bits.specs.Bits.{longest_line}
use Rattle.vt.specs.Sum.{total}
use Rattle.message.proofs.Legal.{legal_bounds, chunk_lies}
use Rattle.whole.specs.Whole.{brings, unread}
use Rattle.whole.proofs.reading.Goals as goal

pub weight-requires : goal.weight-requires
weight-requires c =
    let a = c.args in
    let p = c.requires.0 in
    let place = c.place_of-p.ensures in
    let ok : c.place_of-p.result.ok ≡ true = not-false _ c.if-not-p.false in
    let low : a.block * a.l.nc ≤ longest_line = (chunk_lies a.l p.allowed a.block a.j p.inside p.column).in_string in (
      (p.bits, p.short),
      (
        p.tables,
        (omega (arith, place.within ok, place.lost_just ok), rw c.from.ensures low),
      ),
    )

pub returns : goal.returns
unfolding brings
returns c =
    let a = c.args in
    let p = c.requires.0 in
    let nc_high = (legal_bounds a.l p.allowed).nc_high in
    let low : a.block * a.l.nc ≤ longest_line = (chunk_lies a.l p.allowed a.block a.j p.inside p.column).in_string in
    let before : c.from.result * a.l.nc ≤ longest_line = rw c.from.ensures low in
    let small : c.weight.result < unread =
    omega (arith, c.weight.ensures.1, mul-le-mul before nc_high, mul-le-mul nc_high nc_high) in (
      λ r. (
        c.weight.ensures.0
            ∙ ap₂ (λ (k at : ℕ). total (k * a.l.nc + 1) (take a.l.nc (drop at a.y.now))) c.from.ensures
            (c.place_of-p.ensures.at_just (not-false _ c.if-not-p.false)),
        small,
      ),
      omega (arith, small),
    )
