use Rattle.std.proofs.Common.{arith}
use Rattle.message.specs.Chunks.{row_of}
use Rattle.message.proofs.Assembly.{block_room, block_stage, string_room, string_stage, check-room, end-room, all_ended}
use Rattle.message.proofs.writing.put_fields.Goals as goal

pub put_sums-blocks-requires : goal.put_sums-blocks-requires
put_sums-blocks-requires c =
    let r = c.args.row.now in
    let x = row_of r.layout.nc r.chunks.now in
    let room = block_room r.layout x c.args.out.now r.is_legal c.requires _ c.width-block.ensures in
    ((omega arith, room.0), ((omega arith, omega arith), room.1))

pub put_sums-strings-requires : goal.put_sums-strings-requires
put_sums-strings-requires c =
    let r = c.args.row.now in
    let x = row_of r.layout.nc r.chunks.now in
    let o = c.args.out.now in
    let blocks = block_stage r.layout x o r.is_legal c.requires _ c.width-block.ensures _ _ c.put_sums-blocks.ensures in
    let room = string_room r.layout x o r.is_legal c.requires _ c.width-string.ensures _ _ blocks in
    ((omega arith, room.0), (blocks.ready, room.1))

pub put_row_checks-requires : goal.put_row_checks-requires
put_row_checks-requires c =
    let r = c.args.row.now in
    let x = row_of r.layout.nc r.chunks.now in
    let o = c.args.out.now in
    let blocks = block_stage r.layout x o r.is_legal c.requires _ c.width-block.ensures _ _ c.put_sums-blocks.ensures in
    let strings =
    string_stage r.layout x o r.is_legal c.requires _ c.width-string.ensures _ _ blocks _ _ c.put_sums-strings.ensures in
    (strings.ready, check-room r.layout x o r.is_legal c.requires _ _ strings)

pub end-requires : goal.end-requires
end-requires c =
    let r = c.args.row.now in
    let x = row_of r.layout.nc r.chunks.now in
    let o = c.args.out.now in
    let blocks = block_stage r.layout x o r.is_legal c.requires _ c.width-block.ensures _ _ c.put_sums-blocks.ensures in
    let strings =
    string_stage r.layout x o r.is_legal c.requires _ c.width-string.ensures _ _ blocks _ _ c.put_sums-strings.ensures in
    (c.put_row_checks.ensures.ready, end-room r.layout x o r.is_legal c.requires _ _ strings _ _ c.put_row_checks.ensures)

pub returns : goal.returns
returns c =
    let r = c.args.row.now in
    let x = row_of r.layout.nc r.chunks.now in
    let o = c.args.out.now in
    let blocks = block_stage r.layout x o r.is_legal c.requires _ c.width-block.ensures _ _ c.put_sums-blocks.ensures in
    let strings =
    string_stage r.layout x o r.is_legal c.requires _ c.width-string.ensures _ _ blocks _ _ c.put_sums-strings.ensures in
    all_ended r.layout x o r.is_legal c.requires _ _ strings _ _ c.put_row_checks.ensures _ c.end.ensures
