use Rattle.std.proofs.Common.{◌≡◌, ◌+◌, ◌-◌, ◌*◌, ◌<◌, ◌≤◌, length, sym, refl, arith, rules}
use Rattle.bits.specs.Bits.{most_chunks}
use Rattle.message.proofs.Fields.{field_room}
use Rattle.message.proofs.Legal.{legal_bounds, sizes}
use Rattle.anchor.specs.Anchor.{over, wide}
use Rattle.anchor.proofs.Desk.{blocks_split, blocks-next, sum-last, sums_none, sum-next, sums-set}
use Rattle.anchor.proofs.later.Goals as goal
use Rattle.anchor.proofs.later.Goals.{After-count_wide-count}

-- the count with one block more
more : (c : After-count_wide-count) →
    let a = c.args in
    let p = c.loop-i in
    (p.count + c.count_wide-count.result ≤ (a.l.l1 - (p.i - 1)) * a.l.l2)
    × ((a.l.l1 - (p.i - 1)) * a.l.l2 ≤ most_chunks)
more c =
    let l = c.args.l in
    let i = c.loop-i.i in
    let n = blocks-next l.l1 l.l2 i (omega arith) (omega arith) in
    let size = sizes l (legal_bounds l c.requires.0) in (
      omega (arith, c.count_wide-count.ensures.1),
      omega (arith, size.chunks, blocks_split l.l1 l.l2 (i - 1) (omega arith)),
    )

pub loop-i-init : goal.loop-i-init
loop-i-init c =
    let a = c.args in
    let f = wide a.desk.now a.d (a.k - a.d) in
    record {
      size = refl;
      at_most = omega arith;
      counted = sym (sum-last f a.l.l1 a.l.l2);
      written = sums_none f a.l.l1 a.l.l2 (sizes a.l (legal_bounds a.l c.requires.0)).l1_high;
    }

pub overflow_mul-i : goal.overflow_mul-i
overflow_mul-i c =
    let l = c.args.l in
    let size = sizes l (legal_bounds l c.requires.0) in
    omega (arith, size.chunks, field_room l.l1 l.l2 (c.loop-i.i - 1) (omega arith))

pub count_wide-count-requires : goal.count_wide-count-requires
count_wide-count-requires c =
    let l = c.args.l in
    let size = sizes l (legal_bounds l c.requires.0) in
    let room = field_room l.l1 l.l2 (c.loop-i.i - 1) (omega arith) in
    (c.requires.1.0, (omega (arith, size.chunks), omega arith))

pub overflow_add-count : goal.overflow_add-count
overflow_add-count c = let m = more (goal.at.overflow_add-count c).After-count_wide-count in omega (arith, m.0, m.1)

pub overflow_cast-out : goal.overflow_cast-out
overflow_cast-out c = let m = more (goal.at.overflow_cast-out c).After-count_wide-count in omega (arith, m.0, m.1)

pub bounds-out-i : goal.bounds-out-i
bounds-out-i c = omega (arith, (sizes c.args.l (legal_bounds c.args.l c.requires.0)).l1_high)

pub loop-i-preserved : goal.loop-i-preserved
loop-i-preserved c =
    let a = c.args in
    let l = a.l in
    let p = c.loop-i in
    let f = wide a.desk.now a.d (a.k - a.d) in
    let sum : p.count + c.count_wide-count.result ≡ over f ((p.i - 1) * l.l2) ((l.l1 - (p.i - 1)) * l.l2) =
    omega (
      arith,
      sum-next f l.l1 l.l2 p.i (omega arith) (omega arith),
      c.count_wide-count.ensures.0,
      p.invariant.counted,
    )
    in
    let i : p.i - 1 + 1 ≡ p.i = omega arith in
    let low : p.i - 1 < length p.out = omega (arith, (sizes l (legal_bounds l c.requires.0)).l1_high) in
    record {
      size = search rules;
      at_most = (more (goal.at.loop-i-preserved c).After-count_wide-count).0;
      counted = sum;
      written =
          sums-set f l.l1 l.l2 (p.i - 1) (p.count + c.count_wide-count.result) p.out low sum
          (rw i p.invariant.written);
    }
