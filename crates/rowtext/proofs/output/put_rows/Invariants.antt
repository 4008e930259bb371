-- The loop's invariant: the lines of the first i rows are put.
use mathlib.Core.List.{flat_map}
use Rattle.bits.specs.Bits.{cut}
use Rattle.rowtext.specs.Text.{row_line, Put}
use Rattle.rowtext.proofs.output.put_rows.Given as goal

abbrev pub invariant-loop-i : goal.invariant-loop-i
invariant-loop-i l = Put (flat_map row_line (cut l.i l.w l.list)) l.at l.initial.out l.out l.next
