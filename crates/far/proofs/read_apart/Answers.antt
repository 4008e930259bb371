-- The chunk is read at its place, which is there.
use Rattle.std.proofs.Common.{◌≡◌, true, arith}
use Rattle.std.proofs.lemmas.Bool.{not-false}
use Rattle.message.proofs.Legal.{legal_bounds}
use Rattle.far.proofs.read_apart.Goals as goal

pub number_at-requires : goal.number_at-requires
number_at-requires c =
    let f = c.requires.0 in
    let place = c.place_of-p.ensures in
    let ok : c.place_of-p.result.ok ≡ true = not-false _ c.if-not-p.false in
    (f.bits, ((legal_bounds _ f.allowed).nc_high, omega (arith, place.within ok, place.lost_just ok)))
