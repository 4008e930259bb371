-- What the tactics leave open of `first::level_of`.
use Rattle.std.proofs.Common.{arith, below_more, lt-ltb}
use Rattle.first.proofs.level_of.Goals as goal

-- the level is above the one that block s calls for
pub loop-s-preserved : goal.loop-s-preserved
loop-s-preserved c =
    let was = c.loop-s.invariant in
    record {
      own = omega arith;
      down = below_more _ _
          (λ t k v a b d e f g. omega (arith, was.down t k v a b d e f g))
          (λ v a b d e f g. omega (arith, c.raised.ensures v a b d e f g));
    }

-- all blocks are passed
pub returns-after-loop-s : goal.returns-after-loop-s
returns-after-loop-s c = (
  λ h. omega (arith, rw (lt-ltb 0 c.args.next h) at c.from-level.ensures),
  λ s v h. c.loop-s.invariant.down s (omega arith) v,
)
