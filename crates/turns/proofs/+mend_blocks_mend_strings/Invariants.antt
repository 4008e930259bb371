-- The measure of both: the losses that are open, for each calls the other only after a cell was found.
use Rattle.consistent.specs.Greedy.{in_all}
use Rattle.turns.proofs.+mend_blocks_mend_strings.Given as goal

abbrev pub decreases-mend_blocks : goal.decreases-mend_blocks
decreases-mend_blocks l = in_all l.cells.lost

abbrev pub decreases-mend_strings : goal.decreases-mend_strings
decreases-mend_strings l = in_all l.cells.lost
