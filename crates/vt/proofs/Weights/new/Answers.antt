-- What the tactics leave open of `vt::Weights::new`.
use Rattle.std.proofs.Common.{refl}
use Rattle.vt.specs.Weights.{weights}
use Rattle.vt.proofs.Weights.new.Goals as goal

-- the source's table is compared with the weights of all bytes, here alone
pub invariant_of-result : goal.invariant_of-result
unfolding weights
invariant_of-result c = record { is_table = refl }
