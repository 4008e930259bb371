use Rattle.std.proofs.Common.{ℕ, ◌+◌, ◌/◌, ◌%◌, ap, ◌∙◌, arith}
use Rattle.states.specs.States.{stride, each}
use Rattle.states.proofs.States.{digit, stride_pos}
use Rattle.states.proofs.losses_left.Goals as goal

pub nonzero_div-left : goal.nonzero_div-left
nonzero_div-left c =
    let s = c.loop-s.s in
    omega (arith, c.requires.1.counts s c.loop-s-test.true, stride_pos (each c.args.shape.size) s)

pub returns : goal.returns
returns c left h e s k =
    let shape = c.args.shape in
    let size = each shape.size in
    c.loop-s.invariant.digits s (omega arith) ∙ ap (λ (q : ℕ). q / stride size s % (size s + 1)) e
    ∙ digit size left shape.n s k h
