use Rattle.std.proofs.Common.{◌≡◌, ◌+◌, ◌-◌, length, take, drop, ◌∙◌, arith}
use Rattle.message.specs.Chunks.{row_of}
use Rattle.message.specs.Message.{sums}
use Rattle.message.proofs.Placing.{placed-start, placed-room, placed-next}
use Rattle.message.proofs.RowSums.{length_part, sum_of_part}
use Rattle.message.proofs.writing.put_sums.Goals as goal

pub loop-i-init : goal.loop-i-init
loop-i-init c =
    let a = c.args in
    let r = c.args.row.now in
    let vs = take a.count (drop a.first (sums r.layout (row_of r.layout.nc r.chunks.now))) in
    let none : a.first - a.first ≡ 0 = omega arith in
    rw none (placed-start a.start a.out.now a.k vs c.requires.1.0)

pub put-f-requires : goal.put-f-requires
put-f-requires c =
    let a = c.args in
    let r = c.args.row.now in
    let p = c.loop-i in
    let vs = take a.count (drop a.first (sums r.layout (row_of r.layout.nc r.chunks.now))) in
    let n : length vs ≡ a.count = length_part r.layout (row_of r.layout.nc r.chunks.now) a.first a.count (omega arith) in
    let room =
    placed-room a.start a.out.now a.k vs a.count n c.requires.1.1 (p.i - a.first) p.f p.out p.invariant (omega arith) in
    ((c.requires.0.1, p.invariant.ready), room)

pub loop-i-preserved : goal.loop-i-preserved
loop-i-preserved c =
    let a = c.args in
    let r = c.args.row.now in
    let p = c.loop-i in
    let x = row_of r.layout.nc r.chunks.now in
    let vs = take a.count (drop a.first (sums r.layout x)) in
    let n : length vs ≡ a.count = length_part r.layout x a.first a.count (omega arith) in
    let next : p.i + 1 - a.first ≡ p.i - a.first + 1 = omega arith in
    rw next
    (placed-next a.start a.out.now a.k vs (p.i - a.first) p.f p.out p.invariant (omega arith) _
    (c.sum.ensures ∙ sum_of_part r.layout x a.first a.count p.i (omega arith) (omega arith)) _ _ c.put-f.ensures)
