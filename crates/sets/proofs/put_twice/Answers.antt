-- What the tactics leave open of `sets::put_twice`.
use Rattle.sets.proofs.Sets.{second_in}
use Rattle.sets.proofs.put_twice.Goals as goal

-- each word is added after the one before, and none is taken away
pub returns : goal.returns
returns c =
    let a = c.args in
    let one = c.add_word.ensures in
    let two = c.add_word-2.ensures in
    let three = c.add_word-3.ensures in (
      λ r x. three.0 r (two.0 r (one.0 r x)),
      λ b h x. (
        three.0 _ (two.0 _ (one.1 b h x)),
        second_in a.m a.i a.v c.add_word-3.new.set (λ k g z. three.0 _ (two.1 k g z)) three.1 b h x,
      ),
    )
