-- Before the first bit every content of nc bits is still to come.
use Rattle.std.proofs.Common.{◌^◌, ◌≤◌, sym, ◌∙◌, arith}
use Rattle.std.proofs.Math.Nat.{div-eq_of_lt}
use Rattle.std.proofs.Math.Pow.{pow_mono}
use Rattle.contents.proofs.list_behind.Goals as goal

pub returns : goal.returns
returns c =
    let g = c.gather.ensures in
    let few : 2 ^ c.args.nc ≤ 256 = pow_mono {i = c.args.nc} {j = 8} c.requires.0 in
    record {
      from = g.from;
      few = omega (arith, g.few);
      kept = g.kept;
      all = λ w h. g.all w (div-eq_of_lt h.0, h.1 ∙ sym c.from.ensures);
    }
