-- The loop's invariant: the sums are put for the numbers of losses left behind d.
use Rattle.std.proofs.Common.{◌+◌}
use Rattle.states.proofs.Sums.{DownTo}
use Rattle.states.proofs.add_block.Given as goal

abbrev pub invariant-loop-d : goal.invariant-loop-d
invariant-loop-d l = DownTo (l.d + 1) l.len l.size l.at l.values l.initial.sums l.sums
