use Rattle.std.proofs.Common.{refl, arith}
use Rattle.message.proofs.Placing.{placed-start, placed-room, placed-next}
use Rattle.message.proofs.writing.put_checks.Goals as goal

pub loop-v-init : goal.loop-v-init
loop-v-init c =
    let a = c.args in
    placed-start a.start a.out.now a.nc a.values.now c.requires.1.0

pub put-f-requires : goal.put-f-requires
put-f-requires c =
    let a = c.args in
    let p = c.loop-v in
    let room =
    placed-room a.start a.out.now a.nc a.values.now _ refl c.requires.1.1 p.v-index p.f p.out p.invariant (omega arith) in
    ((c.requires.0, p.invariant.ready), room)

pub loop-v-preserved : goal.loop-v-preserved
loop-v-preserved c =
    let a = c.args in
    let p = c.loop-v in
    placed-next a.start a.out.now a.nc a.values.now p.v-index p.f p.out p.invariant (omega arith) _ c.from.ensures _ _
    c.put-f.ensures
