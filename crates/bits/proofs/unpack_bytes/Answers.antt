-- What the tactics leave open of `bits::unpack_bytes`.
use Rattle.std.proofs.Common.{◌<◌, ◌∙◌, arith, get_or-take, length-take}
use Rattle.bits.proofs.Packing.{byte_unpacked}
use Rattle.bits.proofs.unpack_bytes.Goals as goal

pub loop-i-preserved : goal.loop-i-preserved
loop-i-preserved c =
    let a = c.args in
    let p = c.loop-i in
    let below : p.i < a.n = omega (arith, length-take a.n a.s.now) in
    (rw (get_or-take a.n a.s.now p.i 0 below) at c.unpack_byte.ensures)
    ∙ byte_unpacked a.s.now a.out.now p.out p.i (omega arith) p.invariant
