-- What the tactics leave open of `live::floors_of`.
use Rattle.std.proofs.Common.{arith}
use Rattle.marks.proofs.Digits.{entry-low}
use Rattle.live.proofs.Floors.{flooring_starts, flooring_next, flooring_all}
use Rattle.live.proofs.floors_of.Goals as goal

pub loop-q-init : goal.loop-q-init
loop-q-init c = flooring_starts _ _ _ _ _ _

pub floor_of-requires : goal.floor_of-requires
floor_of-requires c =
    let p = c.requires in
    let d = p.1.1.0 in
    let q = c.loop-q.q in (
      p.0,
      (
        p.1.0,
        (omega (arith, d.long), λ s k. omega (arith, entry-low p.1.1.1.0.0.all d q (omega arith) s k, p.0.small s k)),
      ),
    )

-- a state more has its floor
pub loop-q-preserved : goal.loop-q-preserved
loop-q-preserved c =
    let v = c.floor_of in
    flooring_next _ _ _ _ _ _ c.loop-q.floors c.loop-q.q v.result (omega arith) v.ensures.0 v.ensures.1
    c.loop-q.invariant

-- all states have theirs
pub returns : goal.returns
returns c =
    let p = c.requires.1.1 in
    flooring_all _ _ _ _ _ _ p.0 p.1.0.0.all c.loop-q.floors c.loop-q.q (omega arith) c.loop-q.invariant
