-- A consistent row loses all that is deleted, so a pattern with another total has none.
use Rattle.std.proofs.Common.{◌∙◌, arith}
use Rattle.message.proofs.Legal.{legal_bounds, sizes}
use Rattle.found.proofs.Found.{grown_nothing}
use Rattle.search.proofs.Leaves.{all-counts}
use Rattle.search.proofs.one_pattern.Goals as goal

pub overflow_mul-k : goal.overflow_mul-k
overflow_mul-k c = omega (arith, (sizes c.args.l (legal_bounds c.args.l c.requires.0.is_legal)).chunks)

pub returns-then-pattern-k : goal.returns-then-pattern-k
returns-then-pattern-k c =
    let a = c.args in
    grown_nothing c.requires.1.0
    (λ x k u. c.if-pattern-k.true (c.requires.1.1.0.1 ∙ all-counts c.requires.0 a.pattern.counts a.row.now x k u))

pub finish-requires : goal.finish-requires
finish-requires c =
    let k = c.requires.0.few in
    let high = (sizes c.args.l (legal_bounds c.args.l c.requires.0.is_legal)).chunks in (
      c.requires.0,
      (
        c.requires.1.0,
        (
          (omega (arith, c.if-pattern-k.false, c.requires.1.1.0.1), omega (arith, high, c.copy_from_slice.ensures.len)),
          c.requires.1.1.1,
        ),
      ),
    )

pub returns : goal.returns
returns c = rw c.copy_from_slice.ensures.after at c.finish.ensures
