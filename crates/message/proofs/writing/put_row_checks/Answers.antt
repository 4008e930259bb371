use Rattle.std.proofs.Common.{◌≡◌, length, take, arith, ◌∙◌, ap, refl}
use Rattle.message.specs.Chunks.{row_of}
use Rattle.message.proofs.Cutting.{length-checks}
use Rattle.message.proofs.Legal.{legal_bounds}
use Rattle.message.proofs.writing.put_row_checks.Goals as goal

pub slice_bounds-put_checks-end : goal.slice_bounds-put_checks-end
slice_bounds-put_checks-end c =
    let r = c.args.row.now in
    rw (c.fill_checks.ensures, length-checks r.layout (row_of r.layout.nc r.chunks.now)) refl

pub put_checks-requires : goal.put_checks-requires
put_checks-requires c =
    let r = c.args.row.now in
    let b = legal_bounds r.layout r.is_legal in
    let n : length (take r.layout.r c.fill_checks.new.out) ≡ r.layout.r =
    ap length c.fill_checks.ensures ∙ length-checks r.layout (row_of r.layout.nc r.chunks.now) in
    (omega (arith, b.nc_high), (c.requires.0, rw n c.requires.1))
