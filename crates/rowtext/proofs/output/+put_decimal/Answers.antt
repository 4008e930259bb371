-- `rowtext::output::put_decimal` meets its contract: the digits of the tens, and the last digit after them. Assumes
-- nothing.
use mathlib.Core.Path.{ap}
use native.Mathlib.Omega.{arith}
use lib.ListN.{length}
use Rattle.rowtext.proofs.Lines.{decimal-one, decimal-more, length_more}
use Rattle.rowtext.proofs.Put.{put_then}
use Rattle.rowtext.proofs.output.+put_decimal.Goals as goal

pub put_char-requires : goal.put_char-requires
put_char-requires t c = omega (arith, c.requires, ap length (decimal-one c.args.n c.if-n-lt10.true))

pub returns-then-n-lt10 : goal.returns-then-n-lt10
returns-then-n-lt10 t c = rw (decimal-one c.args.n c.if-n-lt10.true) c.put_char.ensures

pub put_decimal-next-requires : goal.put_decimal-next-requires
put_decimal-next-requires t c =
    let w = length_more c.args.n c.if-n-lt10.false in
    (omega (arith, c.decreases), omega (arith, c.requires))

pub put_char-requires-2 : goal.put_char-requires-2
put_char-requires-2 t c =
    let w = length_more c.args.n c.if-n-lt10.false in
    omega (arith, c.requires, c.put_decimal-next.ensures.after)

pub returns : goal.returns
returns t c =
    rw (decimal-more c.args.n c.if-n-lt10.false)
    (put_then c.put_decimal-next.ensures c.put_char-2.ensures (omega (arith, c.requires)))
