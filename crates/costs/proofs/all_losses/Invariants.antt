-- What `costs::all_losses` keeps in its loop: the losses of the blocks passed are counted.
use Rattle.std.proofs.Common.{◌≡◌, ◌*◌, ◌≤◌}
use Rattle.states.specs.States.{each, firsts}
use Rattle.costs.proofs.all_losses.Given as goal

abbrev pub invariant-loop-losses : goal.invariant-loop-losses
invariant-loop-losses l = record {
  few : l.all ≤ l.losses-index * 255;
  counted : l.all ≡ firsts (each l.fn.size) l.losses-index;
}
