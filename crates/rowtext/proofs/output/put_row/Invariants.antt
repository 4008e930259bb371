-- The loop's invariant: the digits of the bytes that were passed are put.
use Rattle.std.proofs.Common.{take}
use mathlib.Core.List.{flat_map}
use Rattle.rowtext.specs.Text.{hex_byte, Put}
use Rattle.rowtext.proofs.output.put_row.Given as goal

abbrev pub invariant-loop-b : goal.invariant-loop-b
invariant-loop-b l = Put (flat_map hex_byte (take l.b-index l.row)) l.at l.initial.out l.out l.next
