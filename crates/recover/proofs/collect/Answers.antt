use Rattle.std.proofs.Common.{◌≡◌, arith}
use Rattle.recover.proofs.collect.Goals as goal

pub returns : goal.returns
returns c =
    let last : 12 ≡ c.loop-z.z = omega arith in
    rw last c.loop-z.invariant
