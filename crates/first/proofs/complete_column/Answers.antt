-- What the tactics leave open of `first::complete_column`.
use Rattle.std.proofs.Common.{arith}
use Rattle.marks.specs.Digits.{entry_of}
use Rattle.marks.proofs.Digits.{number-low, entry_is}
use Rattle.first.proofs.First.{completing_next}
use Rattle.first.proofs.complete_column.Goals as goal

-- a state more has its mark and level
pub loop-q-preserved : goal.loop-q-preserved
loop-q-preserved c =
    let a = c.args in
    let p = c.requires in
    let kept = p.1.1.0 in
    let q = c.loop-q.q in
    completing_next _ _ _ _ _ _ _ _ _ _ _ kept p.1.1.1.1.1.0 p.1.1.1.1.1.1 c.loop-q.marks c.loop-q.levels
    c.loop-q.highest q (entry_of a.digits.now q) c.level_of-level.result c.far_level-tested.result
    c.first_mark-mark.result c.max-highest.result c.loop-q.invariant c.loop-q-test.true
    record {
      digits = λ own w e. entry_is kept p.1.1.1.0 own w q e;
      own = c.level_of-level.ensures.0;
      down = c.level_of-level.ensures.1;
      tested = λ left w e room.
          c.far_level-tested.ensures (omega (arith, room, rw e at (c.fill_apart.ensures.1 left w)));
      first = c.first_mark-mark.ensures;
      most-more = omega arith;
      mark_more = omega arith;
    }

-- all states are passed
pub returns : goal.returns
returns c =
    let was = c.loop-q.invariant in (
      was.column,
      (
        λ p h. was.most_of_is p (omega arith),
        λ left w u. was.goes left w u (omega (arith, number-low c.requires.1.1.0 left w)),
      ),
    )
