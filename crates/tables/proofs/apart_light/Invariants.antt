-- The loop's invariant: the blocks passed are counted.
use Rattle.tables.proofs.Light.{Counted}
use Rattle.tables.proofs.apart_light.Given as goal

abbrev pub invariant-loop-i : goal.invariant-loop-i
invariant-loop-i l = Counted l.l l.heavy l.row l.z l.count l.h l.i
