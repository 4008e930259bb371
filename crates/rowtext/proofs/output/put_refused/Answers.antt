use Rattle.rowtext.specs.Text.{refused_text}
use Rattle.rowtext.proofs.output.put_refused.Goals as goal

pub returns : goal.returns
unfolding refused_text
returns c = c.put_header.ensures
