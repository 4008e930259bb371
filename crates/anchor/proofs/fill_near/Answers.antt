use Rattle.std.proofs.Common.{◌≡◌, ◌+◌, ◌*◌, length, arith, rules}
use Rattle.message.proofs.Legal.{legal_bounds, sizes}
use Rattle.anchor.specs.Anchor.{near_from}
use Rattle.anchor.proofs.Desk.{put_part, near_next}
use Rattle.anchor.proofs.fill_near.Goals as goal

pub overflow_mul-c-end : goal.overflow_mul-c-end
overflow_mul-c-end c = omega (arith, (sizes c.args.l (legal_bounds c.args.l c.requires.0)).chunks)

pub bounds-desk-c : goal.bounds-desk-c
bounds-desk-c c = omega (arith, (sizes c.args.l (legal_bounds c.args.l c.requires.0)).chunks)

pub shifts-near-requires : goal.shifts-near-requires
shifts-near-requires c =
    let b = legal_bounds c.args.l c.requires.0 in
    (c.requires.1.0, (b.nc_high, (omega (arith, (sizes c.args.l b).chunks), c.requires.1.1.0)))

pub overflow_mul-at : goal.overflow_mul-at
overflow_mul-at c = omega (arith, (sizes c.args.l (legal_bounds c.args.l c.requires.0)).chunks)

pub overflow_add-at : goal.overflow_add-at
overflow_add-at c = omega (arith, (sizes c.args.l (legal_bounds c.args.l c.requires.0)).chunks)

pub overflow_add-at-in-loop-c : goal.overflow_add-at-in-loop-c
overflow_add-at-in-loop-c c = omega (arith, (sizes c.args.l (legal_bounds c.args.l c.requires.0)).chunks)

pub slice_bounds-copy_from_slice-end : goal.slice_bounds-copy_from_slice-end
slice_bounds-copy_from_slice-end c = omega (arith, (sizes c.args.l (legal_bounds c.args.l c.requires.0)).chunks)

pub loop-c-preserved : goal.loop-c-preserved
loop-c-preserved c =
    let a = c.args in
    let p = c.loop-c in
    let near = c.shifts-near.result in
    let n : length near ≡ 13 = search rules in
    near_next a.l.nc a.y.now p.c a.desk.now p.desk near _
    (omega (arith, (sizes a.l (legal_bounds a.l c.requires.0)).chunks))
    c.requires.1.1.1 n c.shifts-near.ensures
    (put_part (near_from + p.c * 13) 13 p.desk near c.copy_from_slice.new.self n c.copy_from_slice.ensures.after)
    p.invariant
