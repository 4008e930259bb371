-- The loop's invariant: the bits of the first t chunks stand from the place on.
use Rattle.std.proofs.Common.{◌≡◌}
use Rattle.lines.proofs.Turns.{spread_to}
use Rattle.lines.proofs.spread.Given as goal

abbrev pub invariant-loop-t : goal.invariant-loop-t
invariant-loop-t l = l.out ≡ spread_to l.nc l.start l.stride l.vs l.at l.initial.out l.t
