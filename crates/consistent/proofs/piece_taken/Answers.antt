use Rattle.std.proofs.Common.{refl, arith}
use Rattle.consistent.proofs.Steps.{whole_eats}
use Rattle.consistent.proofs.piece_taken.Goals as goal

pub returns-then-starts : goal.returns-then-starts
returns-then-starts c =
    let a = c.args in
    (omega arith, whole_eats a.p.now a.y.now (c.if-starts.ensures refl))
