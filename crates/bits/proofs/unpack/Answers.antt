-- What the tactics leave open of `bits::unpack`.
use Rattle.std.proofs.Common.{◌/◌, ◌*◌, ◌∙◌, arith}
use Rattle.bits.proofs.Packing.{all_unpacked}
use Rattle.bits.proofs.unpack.Goals as goal

pub returns : goal.returns
returns c =
    let a = c.args in
    c.unpack_part.ensures
    ∙ all_unpacked a.s.now a.out.now c.unpack_bytes.new.out (a.w / 8 * 8) a.w (omega arith) (omega arith)
    c.unpack_bytes.ensures
