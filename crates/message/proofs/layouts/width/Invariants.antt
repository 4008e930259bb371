-- The loop's invariant: the halvings done and the width of what is left are the width.
use Rattle.std.proofs.Common.{◌≡◌, ◌+◌, ◌≤◌}
use Rattle.message.specs.Message.{width}
use Rattle.message.proofs.layouts.width.Given as goal

abbrev pub invariant-loop-v : goal.invariant-loop-v
invariant-loop-v l = record { within : l.v ≤ l.w; counted : l.k + width l.v ≡ width l.w }

abbrev pub decreases-loop-v : goal.decreases-loop-v
decreases-loop-v l = l.v
