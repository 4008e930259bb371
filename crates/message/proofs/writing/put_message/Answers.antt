use Rattle.std.proofs.Common.{ℕ, List, sym, arith}
use Rattle.std.proofs.Math.ListN.{replicate}
use Rattle.bits.proofs.Packing.{fits-length}
use Rattle.message.specs.Layout.{row_bits}
use Rattle.message.proofs.Assembly.{enough, length-front, front-within, row_held, front_chunked, head-room, body-room, fields-room, assembled}
use Rattle.message.proofs.Legal.{legal_bounds}
use Rattle.message.proofs.writing.put_message.Goals as goal

-- the array that the chunks are filled into
abbrev blank : List ℕ
blank = replicate 255 0

pub slice_bounds-fill-end : goal.slice_bounds-fill-end
slice_bounds-fill-end c =
    let l = c.args.l in
    sym (length-front l.layout c.args.row.now c.args.out.now l.is_legal c.requires.0 c.requires.1 blank (omega arith))

pub fill-requires : goal.fill-requires
fill-requires c =
    let l = c.args.l in
    let e = enough l.layout c.args.row.now c.args.out.now l.is_legal c.requires.0 c.requires.1 in
    let n = length-front l.layout c.args.row.now c.args.out.now l.is_legal c.requires.0 c.requires.1 blank (omega arith) in (
      ((legal_bounds l.layout l.is_legal).nc_high, omega (arith, e.1, fits-length (row_bits l.layout) c.args.row.now c.requires.0)),
      rw n e.0,
    )

pub put_head-requires : goal.put_head-requires
put_head-requires c =
    let l = c.args.l in
    head-room l.layout c.args.row.now c.args.out.now l.is_legal c.requires.0 c.requires.1

pub slice_bounds-row-end : goal.slice_bounds-row-end
slice_bounds-row-end c =
    let l = c.args.l in
    let k =
    front_chunked l.layout c.args.row.now c.args.out.now l.is_legal c.requires.0 c.requires.1 blank (omega arith)
    c.fill.new.out c.fill.ensures in
    sym k.0

pub slice_bounds-chunks-end-2 : goal.slice_bounds-chunks-end-2
slice_bounds-chunks-end-2 c =
    let l = c.args.l in
    front-within l.layout c.args.row.now c.args.out.now l.is_legal c.requires.0 c.requires.1 blank (omega arith)
    c.fill.new.out c.fill.ensures

pub invariant_of-row : goal.invariant_of-row
invariant_of-row c =
    let l = c.args.l in
    record {
      is_legal = l.is_legal;
      chunked =
          front_chunked l.layout c.args.row.now c.args.out.now l.is_legal c.requires.0 c.requires.1 blank (omega arith)
          c.fill.new.out c.fill.ensures;
    }

pub slice_bounds-put_fields-count : goal.slice_bounds-put_fields-count
slice_bounds-put_fields-count c =
    let l = c.args.l in
    body-room l.layout c.args.row.now c.args.out.now l.is_legal c.requires.0 c.requires.1 c.put_head.new.out c.put_head.ensures

pub slice_bounds-put_fields-start : goal.slice_bounds-put_fields-start
slice_bounds-put_fields-start c =
    let l = c.args.l in
    body-room l.layout c.args.row.now c.args.out.now l.is_legal c.requires.0 c.requires.1 c.put_head.new.out c.put_head.ensures

pub put_fields-requires : goal.put_fields-requires
put_fields-requires c =
    let l = c.args.l in
    fields-room l.layout c.args.row.now c.args.out.now l.is_legal c.requires.0 c.requires.1 c.put_head.new.out
    c.put_head.ensures

pub returns : goal.returns
returns c =
    let l = c.args.l in
    let k =
    row_held l.layout c.args.row.now c.args.out.now l.is_legal c.requires.0 c.requires.1 blank (omega arith)
    c.fill.new.out c.fill.ensures in
    assembled l.layout c.args.row.now c.args.out.now l.is_legal c.requires.0 c.requires.1
    c.put_head.new.out c.put_head.ensures _ c.put_fields.new.out k c.put_fields.ensures
