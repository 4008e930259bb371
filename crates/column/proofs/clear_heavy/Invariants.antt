-- The loop's invariant: the chunks of the heavy blocks passed are zero.
use Rattle.column.specs.Column.{Cleared}
use Rattle.column.proofs.clear_heavy.Given as goal

abbrev pub invariant-loop-block : goal.invariant-loop-block
invariant-loop-block l = Cleared l.l l.fn.heavy l.block-index l.initial.row l.row
