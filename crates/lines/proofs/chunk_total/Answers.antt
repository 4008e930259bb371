-- The bits of a number before its last nc are not the chunk's.
use Rattle.std.proofs.Common.{◌-◌, ◌≡◌, ◌%◌, ◌^◌, ap, ◌∙◌}
use Rattle.std.specs.Int.Bits.{bit_and, and_mask}
use Rattle.bits.specs.Bits.{digits}
use Rattle.bits.proofs.Filling.{digits_low}
use Rattle.vt.specs.Sum.{total}
use Rattle.lines.proofs.chunk_total.Goals as goal

pub returns : goal.returns
returns c =
    let a = c.args in
    let e = c.chunk_total.ensures in
    let low : bit_and a.v (c.power.result - 1) ≡ a.v % 2 ^ a.nc = rw c.power.ensures (and_mask a.v a.nc) in
    (e.0 ∙ ap (total a.first) (ap (digits a.nc) low ∙ digits_low a.nc a.v), e.1)
