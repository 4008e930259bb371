use Rattle.hint.proofs.Strings.{bits-set}
use Rattle.hint.proofs.repeat_at.Goals as goal

pub loop-j-preserved : goal.loop-j-preserved
loop-j-preserved c = bits-set c.loop-j.x c.loop-j.j c.read_on.result c.loop-j.invariant c.read_on.ensures
