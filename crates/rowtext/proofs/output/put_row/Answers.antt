use Rattle.std.proofs.Common.{◌≡◌, ◌≤◌, length, take, arith}
use mathlib.Core.List.{flat_map}
use lib.Seq.{take_all}
use Rattle.rowtext.specs.Text.{row_line}
use Rattle.rowtext.proofs.Lines.{hex_place, hex_next}
use Rattle.rowtext.proofs.Put.{put-none, put_then}
use Rattle.rowtext.proofs.output.put_row.Goals as goal

pub loop-b-init : goal.loop-b-init
unfolding flat_map
loop-b-init c = put-none c.args.out.now c.args.at

pub put_hex-next-requires : goal.put_hex-next-requires
put_hex-next-requires c =
    let p = c.loop-b in
    omega (arith, hex_place c.args.row.now p.b-index (omega arith) p.invariant, c.requires)

pub loop-b-preserved : goal.loop-b-preserved
loop-b-preserved c =
    let a = c.args in
    let p = c.loop-b in
    let place : a.at ≤ length a.out.now = omega (arith, c.requires) in
    rw (hex_next a.row.now p.b-index (omega arith)) at (put_then p.invariant c.put_hex-next.ensures place)

pub put_char-requires : goal.put_char-requires
put_char-requires c =
    let p = c.loop-b in
    omega (arith, hex_place c.args.row.now p.b-index (omega arith) p.invariant, c.requires)

pub returns : goal.returns
unfolding row_line
returns c =
    let a = c.args in
    let p = c.loop-b in
    let whole : take p.b-index a.row.now ≡ a.row.now = take_all p.b-index a.row.now (omega arith) in
    let place : a.at ≤ length a.out.now = omega (arith, c.requires) in
    rw whole at (put_then p.invariant c.put_char.ensures place)
