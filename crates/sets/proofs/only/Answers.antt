-- What the tactics leave open of `sets::only`.
use Rattle.std.proofs.Common.{◌+◌}
use Rattle.sets.proofs.Sets.{one-put}
use Rattle.sets.proofs.only.Goals as goal

-- each copy has its word with the one bit
pub returns : goal.returns
returns c =
    let a = c.args in
    let first = c.add_word.ensures.1 in
    let second = c.add_word-2.ensures in
    (second.0 a.r (one-put c.add_word.new.set a.r first), one-put c.add_word-2.new.set (a.m + a.r) second.1)
