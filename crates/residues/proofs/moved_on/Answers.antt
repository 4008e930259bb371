-- `residues::moved_on` meets its contract: the bits are turned within the first m. Assumes nothing.
use Rattle.residues.proofs.Words.{turned_has, one_bit}
use Rattle.residues.proofs.moved_on.Goals as goal

pub returns : goal.returns
returns c n h =
    let a = c.args in
    rw (one_bit a.m c.requires.1) (turned_has a.m a.set n a.by c.requires.0 c.requires.1 h)
