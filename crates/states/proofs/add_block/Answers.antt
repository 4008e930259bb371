use Rattle.std.proofs.Common.{◌≡◌, ◌+◌, ◌-◌, ◌≤◌, length, arith}
use Rattle.states.proofs.Sums.{down_more, down_all, down_room, down_apart, own}
use Rattle.states.proofs.add_block.Goals as goal

pub put_raised-requires : goal.put_raised-requires
put_raised-requires c =
    let a = c.args in
    let p = c.loop-d in
    let low : p.d ≤ a.size = omega arith in (
      (down_room a.len a.size p.d (length p.sums) (omega arith) low, down_apart a.len p.d),
      λ k h.
          omega (
            arith,
            own a.len a.size a.at a.values.now a.sums.now p.d p.sums p.invariant k h,
            c.requires.1 p.d k low h,
          ),
    )

pub loop-d-preserved : goal.loop-d-preserved
loop-d-preserved c =
    let a = c.args in
    let p = c.loop-d in
    let e : p.d - 1 + 1 ≡ p.d = omega arith in
    rw e
    (down_more a.len a.size a.at a.values.now a.sums.now p.d p.sums p.invariant c.put_raised.new.sums
    c.put_raised.ensures.1)

pub returns-2 : goal.returns-2
returns-2 c =
    let a = c.args in
    let p = c.loop-d in
    let end : p.d ≡ 0 = omega arith in
    let down =
    down_more a.len a.size a.at a.values.now a.sums.now p.d p.sums p.invariant c.put_raised.new.sums
    c.put_raised.ensures.1 in (
      omega arith,
      down_all a.len a.size a.at a.values.now a.sums.now c.put_raised.new.sums (rw end at down),
    )
