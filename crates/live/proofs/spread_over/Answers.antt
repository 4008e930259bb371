-- What the tactics leave open of `live::spread_over`.
use Rattle.std.proofs.Common.{false, arith}
use Rattle.states.specs.States.{each}
use Rattle.marks.specs.Digits.{entry_of}
use Rattle.live.proofs.Steps.{gains-more}
use Rattle.live.proofs.Columns.{spread_next}
use Rattle.live.proofs.spread_over.Goals as goal

-- the fresh mark of state q is raised
pub loop-q-preserved : goal.loop-q-preserved
loop-q-preserved c =
    let a = c.args in
    let q = c.loop-q.q in
    let was = c.loop-q.invariant in
    spread_next a.l a.y.now a.numbers.now a.heavy a.known.now a.z.now a.digits.now a.j (each a.other) a.there a.marks.now
    a.at a.low _ q c.max.result c.loop-q.fresh (omega arith) (omega arith)
    (λ m. gains-more a.l a.y.now a.numbers.now a.heavy a.known.now a.z.now a.j false (entry_of a.digits.now q)
    (each a.other) a.there c.reached-mark.result c.max.result (omega arith) (c.reached-mark.ensures m))
    was

-- all states are passed
pub returns : goal.returns
returns c =
    let was = c.loop-q.invariant in
    record { long = was.long; grows = was.grows; gains = λ q lo hi. was.gains q lo (omega arith) }
