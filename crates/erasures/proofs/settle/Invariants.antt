-- The loop's invariant: the contents before the z-th stand in their places.
use Rattle.std.proofs.Common.{◌≡◌, length, get_or}
use Rattle.field.specs.Field.{Element, Elements}
use Rattle.erasures.proofs.Erasures.{Settled}
use Rattle.erasures.proofs.settle.Given as goal

abbrev pub invariant-loop-z : goal.invariant-loop-z
invariant-loop-z l = record {
  long : length l.out ≡ 12;
  elements : Elements l.nc l.out;
  element : Element l.nc l.sum;
  settled : Settled l.nc (λ w. get_or l.cs w 0) l.n l.u l.first l.rest l.out l.sum l.z;
}
