use Rattle.std.proofs.Common.{◌≡◌, ◌∙◌, ◌*◌, arith}
use Rattle.bits.specs.Bits.{bytes_for}
use Rattle.rowlist.proofs.Printed.{no_row, row-size}
use Rattle.rowlist.proofs.row_bytes.Goals as goal

pub returns-then-msg-lt8 : goal.returns-then-msg-lt8
returns-then-msg-lt8 c = no_row c.args.msg.now c.if-msg-lt8.true

pub returns : goal.returns
returns c =
    let e : c.div_ceil.result ≡ bytes_for (c.from.result * c.from-2.result * c.from-3.result) =
    omega (arith, c.div_ceil.ensures) in
    e ∙ rw (c.from.ensures, c.from-2.ensures, c.from-3.ensures) (row-size c.args.msg.now)
