-- The header, and the lines after it.
use Rattle.std.proofs.Common.{arith}
use Rattle.rows.proofs.Slice.{length_cut}
use Rattle.rowtext.specs.Text.{count_word, count_text}
use Rattle.rowtext.proofs.Lines.{header_short}
use Rattle.rowtext.proofs.Put.{put_then}
use Rattle.rowtext.proofs.output.put_count.Goals as goal

pub put_rows-requires : goal.put_rows-requires
put_rows-requires c = (
  c.requires.1.0,
  omega (arith, header_short count_word c.args.count c.requires.0, c.put_header-next.ensures.after, c.requires.1.1),
)

pub returns : goal.returns
unfolding count_text
returns c =
    let a = c.args in
    rw (length_cut a.w a.count a.list.now) (put_then c.put_header-next.ensures c.put_rows.ensures (omega arith))
