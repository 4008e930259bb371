-- The measure is twice the bits that are left, and one more where a bit before them is matched first.
use Rattle.std.proofs.Common.{◌+◌, ◌*◌}
use Rattle.contents.proofs.+gather_gather_bit.Given as goal

abbrev pub decreases-gather : goal.decreases-gather
decreases-gather l = 2 * l.left

abbrev pub decreases-gather_bit : goal.decreases-gather_bit
decreases-gather_bit l = 2 * l.left + 1
