-- A row that fails the test is not consistent, and is not added.
use Rattle.std.proofs.Common.{sym}
use Rattle.found.proofs.Steps.{grown_refused}
use Rattle.found.proofs.add_bits.Goals as goal

pub returns-then-not-is_consistent : goal.returns-then-not-is_consistent
returns-then-not-is_consistent c = grown_refused c.requires.1.1 c.args.x.now (sym c.if-not-is_consistent.ensures)
