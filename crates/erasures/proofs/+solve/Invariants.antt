use Rattle.std.proofs.Common.{◌-◌}
use Rattle.erasures.proofs.+solve.Given as goal

abbrev pub decreases-solve : goal.decreases-solve
decreases-solve l = l.n - l.u
