-- The loop's invariant: the third part of the desk is written for fewer than d losses.
use Rattle.anchor.specs.Anchor.{LaterFor}
use Rattle.anchor.proofs.fill_later.Given as goal

abbrev pub invariant-loop-d : goal.invariant-loop-d
invariant-loop-d l = LaterFor l.l l.k l.d l.initial.desk l.desk
