-- What the tactics leave open of `vt::lacking`.
use Rattle.std.proofs.Common.{◌+◌, arith}
use Rattle.vt.proofs.Mending.{lack, lack_small}
use Rattle.vt.proofs.lacking.Goals as goal

pub returns : goal.returns
returns c =
    let a = c.args in (
      lack_small a.total a.s (a.w + 1) a.w (omega arith) (omega arith),
      lack a.total a.s (a.w + 1) (omega arith),
    )
