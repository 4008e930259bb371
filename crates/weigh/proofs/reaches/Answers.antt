-- `weigh::reaches` meets its contract: it takes the next number from the least on that is needed. Rests on Reach.antt.
-- Assumes nothing.
use Rattle.std.proofs.Common.{◌+◌, ◌/◌, ◌%◌, ◌<◌, ◌≤◌, arith}
use Rattle.std.proofs.Math.Nat.{mod-lt}
use borrow.Author.Tests.{le-leb}
use Rattle.weigh.proofs.Reach.{next-same, next-later}
use Rattle.weigh.proofs.reaches.Goals as goal
use Rattle.weigh.proofs.reaches.Goals.{else-rest-need, then-rest-need}

pub returns : goal.returns
returns c n l h e =
    let a = c.args in
    let low = a.span.low / 2 in
    let rest : low % a.modulus < a.modulus = mod-lt low (omega (arith, c.requires.0)) in
    -- no number with that rest is before it
    let not-before : low + c.if-rest-need.up ≤ n = elim c.if-rest-need.branch [
      | then-rest-need w ↦ omega (arith, w.up-is, next-same a.modulus low n (omega (arith, c.requires.0)) (omega arith) (omega (arith, w.if-rest-need.true)))
      | else-rest-need w ↦ omega (arith, w.up-is, next-later a.modulus low n rest (omega arith) (omega (arith, w.if-rest-need.false)))
    ] in
    le-leb (low + c.if-rest-need.up) (a.span.high / 2) (omega arith)
