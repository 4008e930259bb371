use Rattle.std.proofs.Common.{arith}
use Rattle.message.proofs.Legal.{legal_bounds}
use Rattle.fill.proofs.all_lose.Goals as goal

pub loses_just-requires : goal.loses_just-requires
loses_just-requires c =
    let b = legal_bounds c.args.l c.requires.0.0 in
    (omega (arith, b.nc_low), (b.nc_high, (c.requires.1 c.loop-z.z (omega arith, omega arith)).1.1))
