-- A row that is added is consistent, and nothing is promised to be found.
use Rattle.found.proofs.Steps.{grown_nothing}
use Rattle.hint.proofs.add_prolonged.Goals as goal

pub returns-then-is_err : goal.returns-then-is_err
returns-then-is_err c = grown_nothing c.requires.1.1 (λ z k u. u)
