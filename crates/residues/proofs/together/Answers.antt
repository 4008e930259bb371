-- `residues::together` meets its contract. Assumes nothing.
use Rattle.std.proofs.Common.{◌%◌}
use Rattle.residues.proofs.Words.{or_one, or_other}
use Rattle.residues.proofs.together.Goals as goal

pub returns : goal.returns
returns c m n = (or_one c.args.a c.args.b (n % m), or_other c.args.a c.args.b (n % m))
