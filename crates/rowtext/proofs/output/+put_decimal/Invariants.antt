-- `rowtext::output::put_decimal`, which calls itself for the tens of its number: the number falls at each call.
-- Assumes nothing.
use Rattle.rowtext.proofs.output.+put_decimal.Given as goal

abbrev pub decreases-put_decimal : goal.decreases-put_decimal
decreases-put_decimal l = l.n
