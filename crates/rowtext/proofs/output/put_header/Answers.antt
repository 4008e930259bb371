-- The word, the number and the line feed one after another.
use Rattle.std.proofs.Common.{◌≡◌, ◌++◌, ap, length, drop, length-append, length-drop, arith}
use Rattle.rowtext.proofs.Lines.{decimal-short}
use Rattle.rowtext.proofs.Put.{put_front, put_then}
use Rattle.rowtext.proofs.output.put_header.Goals as goal
use Rattle.rowtext.proofs.output.put_header.Goals.{After-copy_from_slice}

-- the slice keeps its length
same_length : (c : After-copy_from_slice) →
    let a = c.args in
    length (c.copy_from_slice.new.self ++ drop (length a.word.now) a.out.now) ≡ length a.out.now
same_length c =
    let a = c.args in
    let word = c.copy_from_slice.new.self in
    omega (
      arith,
      c.requires.1,
      length-append word (drop (length a.word.now) a.out.now),
      length-drop (length a.word.now) a.out.now,
      ap length c.copy_from_slice.ensures.after,
    )

pub put_decimal-next-requires : goal.put_decimal-next-requires
put_decimal-next-requires c =
    let at = (goal.at.put_decimal-next-requires c).After-copy_from_slice in
    omega (arith, decimal-short 4 c.args.n c.requires.0, c.requires.1, same_length at)

pub put_char-requires : goal.put_char-requires
put_char-requires c =
    let at = (goal.at.put_char-requires c).After-copy_from_slice in
    omega (arith, decimal-short 4 c.args.n c.requires.0, c.requires.1, same_length at, c.put_decimal-next.auto.out, c.put_decimal-next.ensures.after)

pub returns : goal.returns
returns c =
    let a = c.args in
    let word = put_front a.word.now a.out.now c.copy_from_slice.new.self c.copy_from_slice.ensures.after in
    put_then (put_then word c.put_decimal-next.ensures (omega arith)) c.put_char.ensures (omega arith)
