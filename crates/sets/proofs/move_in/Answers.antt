-- What the tactics leave open of `sets::move_in`.
use Rattle.sets.proofs.Sets.{moved_in}
use Rattle.sets.proofs.move_in.Goals as goal

-- what is put in from place m - by on is moved on by so much
pub returns-then-by-m : goal.returns-then-by-m
returns-then-by-m c =
    let a = c.args in
    let put = c.put_in.ensures in
    (put.0, λ h. moved_in a.m a.by a.from.now c.put_in.new.to h put.1)
