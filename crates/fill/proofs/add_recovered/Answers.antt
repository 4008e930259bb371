-- Every consistent row under the state is the one that was recovered, so its open cells lose just their counts there.
use Rattle.std.proofs.Common.{◌≡◌, length, sym, ◌∙◌, arith, rules}
use Rattle.std.proofs.lemmas.Bool.{false≢true}
use Rattle.found.proofs.Found.{grown_nothing, grown_weaken}
use Rattle.cells.specs.Cells.{OpenAt, SameBut}
use Rattle.cells.proofs.Same.{same_wider}
use Rattle.recover.specs.Recover.{OpenInside}
use Rattle.recover.proofs.Spots.{collected_some, collected_open}
use Rattle.fill.proofs.Rows.{in_hand_loses}
use Rattle.fill.proofs.add_recovered.Goals as goal
use Rattle.fill.proofs.add_recovered.Goals.{After-recover}

pub recover-requires : goal.recover-requires
recover-requires c =
    let a = c.args in
    let size : length a.cells.lost ≡ 12 = search rules in
    let n = c.requires.1.1.1 in
    let e = c.collect-erased.ensures in
    let some = collected_some a.l a.cells c.collect-erased.result.n c.collect-erased.result.places size e n.0 in (
      c.requires.0.0.is_legal,
      (c.requires.0.0.count, ((e.few, (some, omega arith)), (e.spots, c.requires.0.1))),
    )

-- the row is as at entry but for the open cells
same : (c : After-recover) → let a = c.args in SameBut a.l (OpenAt a.cells) a.row.now c.recover.new.row
same c =
    let a = c.args in
    let k = c.collect-erased in
    let inside : OpenInside a.l a.cells = λ z o. let q = c.requires.1.1.0 z o in (q.0, q.1.0) in
    same_wider (collected_open a.l a.cells k.result.n k.result.places inside k.ensures) c.recover.ensures.0

pub returns-then-not-all_lose : goal.returns-then-not-all_lose
returns-then-not-all_lose c =
    let a = c.args in (
      grown_nothing c.requires.1.0
          (λ x r u. false≢true (sym c.if-not-all_lose.true
          ∙ c.all_lose.ensures (in_hand_loses a.l a.y.now a.cells c.requires.1.1.0 c.recover.new.row u
          (c.recover.ensures.1 a.cells c.collect-erased.ensures a.y.now x c.requires.0.0 r u)))),
      same (goal.at.returns-then-not-all_lose c).After-recover,
    )

pub returns : goal.returns
returns c =
    let a = c.args in (
      grown_weaken (λ x r u. c.recover.ensures.1 a.cells c.collect-erased.ensures a.y.now x c.requires.0.0 r u) c.add_row.ensures,
      same (goal.at.returns c).After-recover,
    )
