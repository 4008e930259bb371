-- The loop's invariant: the first h heavy blocks have their share, and every row under the table that has just so much
-- left after the column is under the one in hand.
use Rattle.std.proofs.Common.{◌≡◌, length}
use Rattle.states.specs.States.{each}
use Rattle.tables.proofs.Making.{Twelve}
use Rattle.tables.proofs.Stepping.{Halfway}
use Rattle.tables.proofs.step.Given as goal

abbrev pub invariant-loop-h : goal.invariant-loop-h
invariant-loop-h l = record {
  left : length l.table.left ≡ 6;
  cells : Twelve l.table.cells;
  half : Halfway l.l l.y l.heavy l.j l.h (each l.next) l.fn.t l.fn.row l.table l.row;
}
