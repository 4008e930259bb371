-- What the tactics leave open of `live::floor_of`.
use Rattle.std.proofs.Common.{arith}
use Rattle.states.specs.States.{each}
use Rattle.marks.specs.Digits.{entry_of}
use Rattle.near.proofs.Near.{after_same}
use Rattle.live.proofs.floor_of.Goals as goal

-- the digits of the state are what it has left
pub returns : goal.returns
returns c =
    let a = c.args in
    let same = after_same a.columns a.after.now (each c.digits_of-left.result) (entry_of a.digits.now a.q) a.j a.shape.n
    (λ k h. c.digits_of-left.ensures k (omega (arith, c.requires.0.few))) in
    (c.floor_by.ensures.0, λ n h. c.floor_by.ensures.1 n (omega (arith, h, same, c.most_after.ensures)))
