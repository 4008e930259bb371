use Rattle.std.proofs.Common.{◌+◌, ◌*◌, ◌≤◌, ◌<◌, suc, length, set, arith}
use Rattle.std.proofs.Math.ListN.{length-set}
use Rattle.std.proofs.Math.Seq.{get_or-set_same}
use Rattle.states.specs.States.{stride, each}
use Rattle.states.proofs.States.{stride_pos, stride_up}
use Rattle.states.proofs.Sums.{sums_none, sums-more, sums-low}
use Rattle.states.proofs.add_up.Goals as goal

-- there is at least one state, that of no block
pub bounds-sums-0 : goal.bounds-sums-0
bounds-sums-0 c = omega (arith, stride_pos (each c.args.shape.size) c.args.shape.n, c.requires.0.1.all)

pub loop-s-init : goal.loop-s-init
loop-s-init c =
    let sums = c.args.sums.now in
    let some : 0 < length sums =
    omega (arith, stride_pos (each c.args.shape.size) c.args.shape.n, c.requires.0.1.all)
    in
    sums_none c.args.shape c.args.values.now (set sums 0 0) (get_or-set_same sums 0 0 0 some)

pub add_block-requires : goal.add_block-requires
unfolding stride
add_block-requires c =
    let shape = c.args.shape in
    let size = each shape.size in
    let s = c.loop-s.s in
    let sums = c.loop-s.sums in
    let valued = c.requires.1.1 in
    let up = stride_up size (suc s) shape.n (omega arith) in
    let room : stride size s * (size s + 1) ≤ length sums =
    omega (arith, up, c.requires.0.1.all, length-set c.args.sums.now 0 0)
    in
    rw (c.requires.0.1.counts s c.loop-s-test.true) (
      (room, omega (arith, valued.few s c.loop-s-test.true, valued.long)),
      λ e q h l.
          omega (
            arith,
            sums-low shape c.args.values.now valued s (omega arith) sums c.loop-s.invariant q l,
            valued.small s e c.loop-s-test.true h,
          ),
    )

pub loop-s-preserved : goal.loop-s-preserved
loop-s-preserved c =
    let own = c.requires.0.1.counts c.loop-s.s c.loop-s-test.true in
    sums-more c.args.shape c.args.values.now c.loop-s.s c.loop-s.sums c.add_block.new.sums c.loop-s.invariant
    (rw own at c.add_block.ensures.1)
