use Rattle.std.proofs.Common.{ℕ, ◌+◌, ◌*◌, ◌<◌, ◌≤◌, get_or, arith, below_more}
use Rattle.std.proofs.Math.Nat.{mul-le-mul_right}
use Rattle.message.proofs.Legal.{legal_bounds, sizes}
use Rattle.states.specs.States.{lefts}
use Rattle.far.specs.Far.{block_at}
use Rattle.far.proofs.Walks.{covered-kept}
use Rattle.far.proofs.fill.Goals as goal

-- the table of a block ends where that of the next one starts
next_block : (columns s n : ℕ) → s < n → block_at columns s + (columns + 1) * lefts ≤ block_at columns n
next_block columns s n h = omega (arith, mul-le-mul_right {m = s + 1} {n = n} ((columns + 1) * lefts) (omega arith))

pub overflow_mul-stride : goal.overflow_mul-stride
overflow_mul-stride c = omega (arith, (sizes c.args.l (legal_bounds c.args.l c.requires.0.allowed)).l2_high)

pub loop-s-preserved : goal.loop-s-preserved
loop-s-preserved c =
    let d = c.sweep.ensures in
    let a = c.args in
    let h = c.loop-s-test.true in
    below_more _ _
    (λ k r.
    covered-kept a.l a.y.now a.heavy a.z.now k (get_or a.size k 0) a.ahead (block_at a.l.l2 k)
    (c.requires.1.1.0 k (omega (arith, h))) a.l.l2 (omega arith) c.loop-s.table c.sweep.new.table
    (λ u m. d.before u (omega (arith, m, next_block a.l.l2 k c.loop-s.s r))) (c.loop-s.invariant k r))
    (rw c.from-most.ensures at d.covered)

pub returns : goal.returns
returns c = (λ s h. c.loop-s.invariant s (omega arith), c.loop-s.auto.table)
