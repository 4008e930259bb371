-- `residues::meet` meets its contract: a residue of both sets is a bit that they have in common. Assumes nothing.
use Rattle.std.proofs.Common.{ap, ◌%◌}
use mathlib.Core.Bool.{not}
use borrow.Author.Tests.{ne_eqb}
use Rattle.residues.proofs.Words.{and_one}
use Rattle.residues.proofs.meet.Goals as goal

pub returns : goal.returns
returns c m n h g = ap not (ne_eqb _ 0 (and_one c.args.a c.args.b (n % m) h g))
