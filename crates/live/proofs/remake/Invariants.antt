-- What `live::remake` keeps in its loop: the fresh marks gain by the other states passed.
use Rattle.std.proofs.Common.{◌≡◌, length}
use Rattle.states.specs.States.{most_states}
use Rattle.live.proofs.Columns.{Remaking}
use Rattle.live.proofs.remake.Given as goal

abbrev pub invariant-loop-p : goal.invariant-loop-p
invariant-loop-p l = record {
  long : length l.fresh ≡ most_states;
  remaking : Remaking l.l l.y l.numbers l.heavy l.known l.z l.shape l.j l.ahead l.at l.base l.marks l.fresh l.p;
}
