-- What the tactics leave open of `first::first_mark`.
use Rattle.std.proofs.Common.{arith}
use Rattle.first.proofs.first_mark.Goals as goal

-- the state was tested as if its level were one
pub returns-in-1-to-2 : goal.returns-in-1-to-2
returns-in-1-to-2 c =
    let t = c.tested_mark.ensures in
    record {
      high = λ h. absurd (omega (arith, c.in-1-to-2));
      same = λ row vs next light crosses same v m. t.same row vs next light crosses same (omega arith) m;
      one = λ row vs next s h light crosses one low v m. t.one row vs next s h light crosses one low (omega arith) m;
    }
