-- What the tactics leave open of `live::reached_by`.
use Rattle.std.proofs.Common.{◌≡◌, ℕ, ◌<◌, refl, sym, arith}
use Rattle.states.specs.States.{each}
use Rattle.marks.specs.Digits.{entry_of}
use Rattle.marks.proofs.Paths.{crosses-same}
use Rattle.live.proofs.reached_by.Goals as goal

-- the digits of the state are what it has left
pub returns : goal.returns
returns c vs m k v =
    let a = c.args in
    let few = c.requires.0.fit.few in
    let own : (t : ℕ) → t < a.heavy.n → entry_of a.digits.now a.q t ≡ each c.digits_of-own.result t =
    λ t h. sym (c.digits_of-own.ensures t (omega arith)) in
    c.carried.ensures m _ v
    (c.between.ensures k.row vs k.light
    (crosses-same a.l a.y.now a.numbers.now a.heavy k.row a.j vs (entry_of a.digits.now a.q)
    (each c.digits_of-own.result) (each a.other) (each a.other) own (λ t h. refl) (k.back refl)))
