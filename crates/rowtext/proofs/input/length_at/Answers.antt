use Rattle.std.proofs.Common.{arith}
use Rattle.rowtext.proofs.Parts.{no_length, two_bytes}
use Rattle.rowtext.proofs.input.length_at.Goals as goal

pub returns-in_default : goal.returns-in_default
returns-in_default c = (no_length c.args.s.now c.in_default.len_below, omega arith)

-- two bytes are below 65,536 together
pub returns-in-len2-up : goal.returns-in-len2-up
returns-in-len2-up c =
    let both = two_bytes c.args.s.now c.in-len2-up.len_at_least in (
      rw (c.from.ensures, c.from-in-len2-up.ensures) both,
      omega (arith, c.from.ensures, c.from-in-len2-up.ensures, (c.type_inv.s 0).fits, (c.type_inv.s 1).fits),
    )
