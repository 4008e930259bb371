-- The loop's invariant: the logs of the first e powers are written.
use Rattle.std.proofs.Common.{◌≡◌}
use Rattle.field.specs.Tables.{with_logs}
use Rattle.field.proofs.fill_logs.Given as goal

abbrev pub invariant-loop-e : goal.invariant-loop-e
invariant-loop-e l = l.logs ≡ with_logs l.nc l.e l.initial.logs
