-- The loop's invariant: the open cells of the block among those passed are cut out.
use Rattle.std.proofs.Common.{◌≡◌}
use Rattle.blocks.specs.Blocks.{bare, CutOut}
use Rattle.blocks.proofs.cut_out.Given as goal

abbrev pub invariant-loop-z : goal.invariant-loop-z
invariant-loop-z l = record {
  out : CutOut l.l l.y l.cells l.i l.z l.cut;
  zeros : l.row ≡ bare l.l l.cells l.i l.z l.initial.row;
}
