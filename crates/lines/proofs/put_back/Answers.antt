-- A string that has this total and gives the bits at hand is the mended one.
use Rattle.std.proofs.Common.{◌+◌, ◌%◌, ◌≤◌, ◌≡◌, ap, ◌∙◌, take, arith}
use Rattle.std.proofs.Math.Nat.{mod-lt}
use Rattle.bits.specs.Bits.{number}
use Rattle.rows.specs.Order.{Row}
use Rattle.vt.specs.Mend.{mended}
use Rattle.lines.proofs.Lost.{front_mended, made_again}
use Rattle.lines.proofs.put_back.Goals as goal
use Rattle.lines.proofs.put_back.Goals.{After-mend_bits}

-- the mended bits stand at the front
front : (c : After-mend_bits) → let a = c.args in
    let w = mended a.nc (a.whole % (a.nc + 1)) a.bits.now in (take a.nc c.mend_bits.new.out ≡ w) × Row a.nc w
front c =
    let a = c.args in
    let low : a.whole % (a.nc + 1) ≤ a.nc = omega (arith, mod-lt a.whole {m = a.nc + 1} (omega arith)) in
    front_mended a.nc (a.whole % (a.nc + 1)) a.bits.now c.mend_bits.new.out _ c.requires.1 c.requires.0.0 low
    c.mend_bits.ensures

pub number_at-requires : goal.number_at-requires
number_at-requires c =
    let e = front (goal.at.number_at-requires c).After-mend_bits in
    (rw e.0 e.1.1, (c.requires.0.1, rw e.0 (omega (arith, e.1.0))))

pub returns : goal.returns
returns c x a comes t =
    let again = made_again c.args.nc c.args.whole x c.args.bits.now a comes c.requires.0.0 t in
    c.number_at.ensures ∙ ap (number c.args.nc) ((front (goal.at.returns c).After-mend_bits).0 ∙ again)
