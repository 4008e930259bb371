-- Where no cell is the only open loss of its key, no key has one.
use Rattle.std.proofs.Common.{◌≡◌, length, arith, rules}
use Rattle.cells.proofs.Shares.{none_single}
use Rattle.cells.proofs.single.Goals as goal

pub returns : goal.returns
returns c =
    let a = c.args in
    let long : length a.keys ≡ 12 = search rules in
    (omega arith, (λ h. absurd (omega arith), λ h. none_single a.keys a.lost (λ z k. c.loop-z.invariant z (omega arith))))
