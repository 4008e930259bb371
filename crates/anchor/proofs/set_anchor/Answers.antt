-- The first row of the list slice is consistent and known.
use Rattle.std.proofs.Common.{◌<◌, length-set, arith}
use Rattle.anchor.proofs.Anchor.{first_row, first_held, first-room}
use Rattle.anchor.proofs.set_anchor.Goals as goal

pub prepare-requires : goal.prepare-requires
prepare-requires c =
    let g = c.requires.0 in
    let some : 0 < c.args.kept.count = omega arith in
    let row = first-room _ c.args.kept some c.requires.1.0 in
    (g.is_legal, (g.bits, ((g.short, g.few), (row, omega (arith, length-set c.args.desk.now 0 1)))))

pub returns : goal.returns
returns c =
    let some : 0 < c.args.kept.count = omega arith in
    let f = first_held _ c.args.kept some c.requires.1.0 in
    λ e. record {
      some-checks = omega arith;
      row = first_row c.args.l c.args.list.now;
      sent = f.0;
      known = f.1;
      prepared = c.prepare.ensures;
    }
