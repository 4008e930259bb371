-- `consistent::after_bit` meets its contract: past the end, another bit, or the bit itself. Assumes nothing.
use borrow.Author.Rules.{rules}
use native.Mathlib.Omega.{arith}
use Rattle.consistent.proofs.Steps.{bit_past, bit_other, bit_takes}
use Rattle.consistent.proofs.after_bit.Statement.{statement}
use Rattle.consistent.proofs.after_bit.Tie as tie

returns : tie.Need-returns-then-y-j
returns c = bit_past c.args.b c.args.y.now c.args.j (omega arith) (omega arith)

shared-slice-read-if2 : tie.Need-bounds-y-j
shared-slice-read-if2 c = search rules

returns-2 : tie.Need-returns-then-y-j-2
returns-2 c =
    let a = c.args in
    bit_other a.b a.y.now a.j (omega arith) c.if-y-j-2.true

add-result : tie.Need-overflow_add-result
add-result c = search rules

returns-3 : tie.Need-returns
returns-3 c =
    let a = c.args in
    bit_takes a.b a.y.now a.j (omega arith) c.if-y-j-2.false

pub after_bit_spec : {M : Type 1} → statement M
after_bit_spec = tie.close (tie.spec
    returns
    shared-slice-read-if2
    returns-2
    add-result
    returns-3)
