use Rattle.std.proofs.Common.{◌≡◌, ◌∙◌, ap, arith}
use Rattle.message.specs.Message.{width}
use Rattle.message.proofs.Fields.{width_zero, width_half, width-most}
use Rattle.message.proofs.layouts.width.Goals as goal

pub overflow_add-k : goal.overflow_add-k
overflow_add-k c =
    let p = c.loop-v in
    omega (arith, p.invariant.counted, width_half p.v c.loop-v-test.true, width-most 11 c.args.w (omega arith))

pub loop-v-preserved : goal.loop-v-preserved
loop-v-preserved c =
    let p = c.loop-v in
    record {
      within = omega arith;
      counted = omega (arith, p.invariant.counted, width_half p.v c.loop-v-test.true);
    }

pub returns : goal.returns
returns c =
    let p = c.loop-v in
    let z : p.v ≡ 0 = omega arith in
    omega (arith, p.invariant.counted, ap width z ∙ width_zero)
