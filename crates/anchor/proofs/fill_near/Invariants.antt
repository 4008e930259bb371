-- The loop's invariant: the second part of the desk is written for the first c chunks.
use Rattle.anchor.specs.Anchor.{NearFor}
use Rattle.anchor.proofs.fill_near.Given as goal

abbrev pub invariant-loop-c : goal.invariant-loop-c
invariant-loop-c l = NearFor l.l.nc l.y l.c l.initial.desk l.desk
