use Rattle.std.proofs.Common.{◌+◌, ◌*◌, ◌<◌, ◌≤◌, arith}
use native.Mathlib.Nat.{mul-le-mul_left}
use Rattle.bits.specs.Bits.{longest}
use Rattle.hint.proofs.Strings.{bits-set}
use Rattle.hint.proofs.try_block.Goals as goal

pub loop-u-preserved : goal.loop-u-preserved
loop-u-preserved c =
    let p = c.loop-u in
    let one : c.from.result ≤ 1 = omega (arith, c.from.ensures, c.read_on-b.ensures) in
    let most : (p.u + 1) * c.from.result ≤ (p.u + 1) * 1 = mul-le-mul_left (p.u + 1) one in
    let low : p.u < longest = omega arith in
    record {
      bits = bits-set p.x (c.args.i * c.args.nb + p.u) c.read_on-b.result p.invariant.bits c.read_on-b.ensures;
      small = omega arith;
    }
