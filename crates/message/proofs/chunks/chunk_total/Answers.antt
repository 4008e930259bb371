-- What the table says of the byte, moved to the chunk's place.
use Rattle.std.proofs.Common.{◌≡◌, ◌+◌, ◌-◌, ◌*◌, arith}
use Rattle.std.proofs.Math.Nat.{mul-le-mul}
use Rattle.bits.specs.Bits.{longest_line, digits}
use Rattle.vt.specs.Sum.{total}
use Rattle.message.proofs.Picking.{chunk_adds}
use Rattle.message.proofs.chunks.chunk_total.Goals as goal
use Rattle.message.proofs.chunks.chunk_total.Goals.{After-of-w}

-- the difference is the total
difference : (c : After-of-w) → let a = c.args in let w = c.of-w.result in
    w.total + a.first * w.ones ≡ total a.first (digits a.nc a.v) + (9 - a.nc) * w.ones
difference c =
    let a = c.args in
    let p = c.requires in
    let e = c.of-w.ensures in
    rw (e.0.0, e.1.0) (chunk_adds a.nc a.v a.first p.0 p.1.0 p.1.1.0)

pub overflow_sub-result-2 : goal.overflow_sub-result-2
overflow_sub-result-2 c = omega (arith, difference (goal.at.overflow_sub-result-2 c).After-of-w)

pub returns : goal.returns
returns c =
    let d = difference (goal.at.returns c).After-of-w in
    let e = c.of-w.ensures in
    (omega (arith, d), omega (arith, d, e.0.1, mul-le-mul {n₂ = longest_line + 1} {m₂ = 8} c.requires.1.1.1 e.1.1))
