-- The loop's invariant: the checks before this one are put.
use Rattle.message.proofs.Placing.{Placed}
use Rattle.message.proofs.writing.put_checks.Given as goal

abbrev pub invariant-loop-v : goal.invariant-loop-v
invariant-loop-v l = Placed l.fn.start l.fn.out l.nc l.values l.v-index l.f l.out
