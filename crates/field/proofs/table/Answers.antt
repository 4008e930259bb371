-- The source's table is compared with the doubles of the six fields, here alone.
use Rattle.std.proofs.Common.{refl}
use Rattle.field.specs.Tables.{powers}
use Rattle.field.proofs.table.Goals as goal

pub returns : goal.returns
unfolding powers
returns c = refl
