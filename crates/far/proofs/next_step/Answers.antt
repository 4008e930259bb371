use Rattle.std.proofs.Common.{◌≡◌, ◌+◌, ◌*◌, set, arith}
use Rattle.message.proofs.Legal.{legal_bounds, sizes}
use Rattle.far.specs.Far.{step_at}
use Rattle.far.proofs.Walks.{Stepping, stepping_next, stepping_last}
use Rattle.far.proofs.next_step.Goals as goal
use Rattle.far.proofs.next_step.Goals.{After-max-most}

pub overflow_add-here-in-loop-w : goal.overflow_add-here-in-loop-w
overflow_add-here-in-loop-w c =
    let f = c.requires.0 in
    let p = c.loop-w in
    let high = (sizes c.args.l (legal_bounds c.args.l f.allowed)).l2_high in
    let here = p.invariant.before (step_at c.args.at c.args.t + p.w) (omega (arith, f.small)) in
    omega (arith, here, c.requires.1.1.1 p.w (omega arith), c.requires.1.0, high, c.step_apart-apart.ensures.0)

pub overflow_add-here-in-loop-w-2 : goal.overflow_add-here-in-loop-w-2
overflow_add-here-in-loop-w-2 c =
    let f = c.requires.0 in
    let p = c.loop-w in
    let high = (sizes c.args.l (legal_bounds c.args.l f.allowed)).l2_high in
    let here = p.invariant.before (step_at c.args.at c.args.t + p.w) (omega (arith, f.small)) in
    omega (arith, here, c.requires.1.1.1 p.w (omega arith), c.requires.1.0, high)

-- one entry more
stepped : (c : After-max-most) →
    let a = c.args in
    Stepping a.l a.y.now a.heavy a.z.now a.s a.size a.ahead a.at a.t a.table.now
    (set c.loop-w.table (a.at + a.t * 13 + 13 + c.loop-w.w) c.max.result) c.max-most.result (c.loop-w.w + 1)
stepped c =
    let f = c.requires.0 in
    let p = c.loop-w in
    let here = p.invariant.before (step_at c.args.at c.args.t + p.w) (omega (arith, f.small)) in
    let next : step_at c.args.at (c.args.t + 1) + p.w ≡ c.args.at + c.args.t * 13 + 13 + p.w = omega arith in
    rw (← next)
    (stepping_next _ _ _ _ _ _ _ _ _ _ p.table p.most p.w c.step_apart-apart.result _ _
    f.small (omega (arith, c.requires.1.1.0, p.invariant.long)) (omega arith) p.invariant
    (c.requires.1.1.1 p.w (omega arith)) c.step_apart-apart.ensures.0 c.step_apart-apart.ensures.1
    (rw here at c.max.ensures) (rw here at c.max-most.ensures))

pub loop-w-preserved : goal.loop-w-preserved
loop-w-preserved c = stepped (goal.at.loop-w-preserved c).After-max-most

pub returns-2 : goal.returns-2
returns-2 c = stepping_last _ _ _ _ _ _ _ _ _ _ _ _ _ (omega arith) (stepped (goal.at.returns-2 c).After-max-most)
