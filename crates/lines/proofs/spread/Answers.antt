use Rattle.std.proofs.Common.{◌+◌, ◌*◌, ◌≤◌, length, arith}
use Rattle.lines.proofs.Turns.{chunk_of, spread_none, spread_next}
use Rattle.lines.proofs.spread.Goals as goal

pub loop-t-init : goal.loop-t-init
loop-t-init c =
    let a = c.args in
    spread_none a.nc a.start a.stride a.at a.vs.now a.out.now

pub loop-t-preserved : goal.loop-t-preserved
loop-t-preserved c =
    let a = c.args in
    let p = c.loop-t in
    let chunk = chunk_of a.nc a.start a.stride a.count (length a.vs.now) p.t c.requires.0 (omega arith) in
    let room : a.at + (p.t * a.nc + a.nc) ≤ length a.out.now = omega (arith, chunk.room) in
    spread_next a.nc a.start a.stride a.at p.t a.vs.now a.out.now p.out c.put_chunk.new.out room p.invariant
    c.put_chunk.ensures
