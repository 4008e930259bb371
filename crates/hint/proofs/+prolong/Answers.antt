use Rattle.std.proofs.Common.{◌≤◌, arith}
use Rattle.bits.specs.Bits.{longest}
use Rattle.consistent.specs.Consistent.{most_losses}
use Rattle.consistent.specs.Query.{Query}
use Rattle.found.specs.Given.{Given}
use Rattle.hint.specs.declared.Stand.{Stand}
use Rattle.hint.specs.Tries.{Stands}
use Rattle.hint.proofs.Places.{high, received-short, block_inside, place-high}
use Rattle.hint.proofs.+prolong.Goals as goal

-- the place that is read is small
small : {q : Query} → Given q → (s : Stand) → Stands q.layout s → s.p ≤ longest
small g s h = place-high g s.i s.p h.inside h.before

pub first_try-t-requires : goal.first_try-t-requires
first_try-t-requires t c = (received-short c.requires.0.0, (omega arith, omega arith))

pub try_block-requires : goal.try_block-requires
try_block-requires t c =
    let g = c.requires.0.0 in
    let r = c.as_read-here in
    let h = r.ensures.1.0 in
    let v = c.loop-t.invariant in
    let room = block_inside g r.result.i (omega (arith, h.inside, c.if-i-l.false)) in (
      ((g.bits, received-short g), (v.hand.bits, omega (arith, v.hand.size, (high g).row))),
      (v.fit, (small g r.result h, omega (arith, v.hand.size, room))),
    )

pub next_try-t-requires : goal.next_try-t-requires
next_try-t-requires t c =
    let v = c.loop-t.invariant in
    let few : c.min-most.result ≤ most_losses = omega (arith, c.requires.0.1) in
    ((received-short c.requires.0.0, few), (v.fit, (v.some, omega (arith, c.loop-t-test.true))))
