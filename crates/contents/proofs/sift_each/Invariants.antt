-- The loop's invariant: the entries passed are sifted.
use Rattle.contents.proofs.Sifted.{Sifted}
use Rattle.contents.proofs.sift_each.Given as goal

abbrev pub invariant-loop-i : goal.invariant-loop-i
invariant-loop-i l = Sifted l.nc l.a l.initial.out l.i l.out l.k
