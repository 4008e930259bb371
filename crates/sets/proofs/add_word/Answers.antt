-- What the tactics leave open of `sets::add_word`.
use Rattle.sets.proofs.Sets.{word_grows, word_put}
use Rattle.sets.proofs.add_word.Goals as goal

-- the word's bits come in, and nothing goes
pub returns : goal.returns
returns c =
    let a = c.args in
    (word_grows a.set.now a.i a.w c.requires, word_put a.set.now a.i a.w c.requires)
