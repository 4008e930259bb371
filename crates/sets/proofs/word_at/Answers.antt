-- What the tactics leave open of `sets::word_at`.
use Rattle.sets.proofs.Sets.{read_word}
use Rattle.sets.proofs.word_at.Goals as goal

-- the upper bits of a word stand before the lower ones of the next
pub returns : goal.returns
returns c b h x = read_word c.args.from.now c.args.p b h x
