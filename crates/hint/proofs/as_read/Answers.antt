use Rattle.std.proofs.Common.{arith}
use Rattle.hint.proofs.Places.{high, received-short, block_inside, place-high}
use Rattle.hint.proofs.as_read.Goals as goal

pub overflow_mul-nb : goal.overflow_mul-nb
overflow_mul-nb c = omega (arith, (high c.requires.0).block)

pub try_block-requires : goal.try_block-requires
try_block-requires c =
    let g = c.requires.0 in
    let p = c.loop-i in
    let v = p.invariant in
    let inside = block_inside g p.i (omega arith) in (
      ((g.bits, received-short g), (v.hand.bits, omega (arith, v.hand.size, (high g).row))),
      (
        record { q_in = omega arith; r_in = omega arith; g_few = omega arith; e_few = omega arith },
        (place-high g p.i p.p (omega arith) v.before, omega (arith, v.hand.size)),
      ),
    )
