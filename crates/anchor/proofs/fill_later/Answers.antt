use Rattle.std.proofs.Common.{◌≡◌, ◌+◌, ◌*◌, length, arith, rules}
use Rattle.bits.specs.Bits.{most_in_line}
use Rattle.message.proofs.Legal.{legal_bounds, sizes}
use Rattle.anchor.specs.Anchor.{later_from}
use Rattle.anchor.proofs.Desk.{put_part, later-next}
use Rattle.anchor.proofs.fill_later.Goals as goal

pub loop-d-preserved : goal.loop-d-preserved
loop-d-preserved c =
    let a = c.args in
    let p = c.loop-d in
    let counts = c.later-counts.result in
    let size = sizes a.l (legal_bounds a.l c.requires.0) in
    let n : length counts ≡ most_in_line + 1 = search rules in
    later-next a.l a.k p.d a.desk.now p.desk counts _ size.l1_high (omega arith) c.requires.1.1 n c.later-counts.ensures
    size.chunks
    (put_part (later_from + p.d * (most_in_line + 1)) (most_in_line + 1) p.desk counts c.copy_from_slice.new.self n c.copy_from_slice.ensures.after)
    p.invariant
