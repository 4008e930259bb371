use Rattle.std.proofs.Common.{◌≡◌, length, arith, rules}
use Rattle.rests.proofs.Rests.{short-low}
use Rattle.rests.proofs.with_chunk.Goals as goal

pub contents-n-requires : goal.contents-n-requires
contents-n-requires c = ((short-low c.requires.0).nc_high, (omega arith, omega arith))

pub with_each-requires : goal.with_each-requires
with_each-requires c =
    let k = short-low c.requires.0 in
    let long : length c.contents-n.new.out ≡ 256 = search rules in (
      (k.nc_high, ((omega arith, omega (arith, k.modulus)), (omega arith, omega (arith, k.first)))),
      omega (arith, c.contents-n.ensures.0),
    )
