-- The chunks are copied to the desk, and the other parts are written after them.
use Rattle.std.proofs.Common.{◌≡◌, length, arith, rules}
use Rattle.bits.specs.Bits.{most_chunks}
use Rattle.message.proofs.Legal.{legal_bounds, sizes}
use Rattle.lines.proofs.Lines.{length-values}
use Rattle.anchor.proofs.Desk.{put_part, prepared}
use Rattle.anchor.proofs.prepare.Goals as goal

pub first_chunks-requires : goal.first_chunks-requires
first_chunks-requires c =
    let size = sizes c.args.l (legal_bounds c.args.l c.requires.0) in
    (c.requires.0, (c.requires.1.1.1.0, size.chunks))

pub overflow_mul-k : goal.overflow_mul-k
overflow_mul-k c = omega (arith, (sizes c.args.l (legal_bounds c.args.l c.requires.0)).chunks)

pub returns : goal.returns
returns c =
    let a = c.args in
    let q = c.requires.1.1 in
    let chunks = c.first_chunks.new.out in
    let n : length c.first_chunks.new.out ≡ most_chunks = search rules in
    prepared a.l a.y.now _ _ chunks a.desk.now _ c.fill_near.new.desk c.fill_later.new.desk
    (sizes a.l (legal_bounds a.l c.requires.0)).chunks q.0.0 q.0.1 q.1.1 c.first_chunks.ensures (length-values a.l _) n
    (put_part 1 most_chunks a.desk.now chunks c.copy_from_slice.new.self n c.copy_from_slice.ensures.after)
    c.fill_near.ensures c.fill_later.ensures
