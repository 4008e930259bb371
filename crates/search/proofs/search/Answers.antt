-- Where no bit is lost, the received row is the only one that can be consistent.
use Rattle.std.proofs.Common.{◌≡◌, length, arith}
use Rattle.message.specs.Layout.{row_bits}
use Rattle.message.proofs.Legal.{legal_bounds, sizes}
use Rattle.found.proofs.Found.{holding_none, grown_weaken, grown_all}
use Rattle.search.proofs.Leaves.{only-received}
use Rattle.search.proofs.search.Goals as goal

pub overflow_mul-l : goal.overflow_mul-l
overflow_mul-l c = omega (arith, (sizes c.args.l (legal_bounds c.args.l c.requires.0.is_legal)).chunks)

pub add_bits-requires : goal.add_bits-requires
add_bits-requires c =
    let a = c.args in
    let whole : length a.y.now ≡ row_bits a.l = omega (arith, c.requires.0.short, c.if-y-l.false) in
    (c.requires.0, ((whole, c.requires.0.bits), holding_none a.l a.numbers.now a.y.now a.cap a.list.now c.requires.1))

pub returns : goal.returns
returns c =
    let whole : length c.args.y.now ≡ row_bits c.args.l = omega (arith, c.requires.0.short, c.if-y-l.false) in
    grown_all c.requires.1 (grown_weaken (λ x k u. only-received c.requires.0 whole x k) c.add_bits.ensures)
