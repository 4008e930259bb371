-- `weigh::can_bring` meets its contract: no chunks bring nothing, and before the first chunk nothing is brought.
-- Assumes nothing.
use Rattle.std.proofs.Common.{sym, ◌∙◌, arith, eq-eqb}
use Rattle.std.proofs.Math.Nat.{zero-mod}
use Rattle.weigh.specs.Weigh.{brought}
use Rattle.weigh.proofs.can_bring.Goals as goal

pub returns-then-chunks-eq0 : goal.returns-then-chunks-eq0
unfolding brought
returns-then-chunks-eq0 c vs can e = eq-eqb _ 0 (sym (rw c.if-chunks-eq0.true at e) ∙ zero-mod _)

pub returns : goal.returns
unfolding brought
returns c vs can e = c.brings.ensures vs can (record { low = omega arith; high = omega arith }) e
