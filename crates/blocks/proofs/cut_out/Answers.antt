-- `blocks::cut_out` meets its contract. Rests on Cutting.antt. Assumes nothing.
use Rattle.std.proofs.Common.{refl, sym, ◌∙◌}
use Rattle.blocks.specs.Blocks.{bare}
use Rattle.blocks.proofs.Cutting.{bare_out, cut-none, cut_skip}
use Rattle.blocks.proofs.cut_out.Goals as goal
use Rattle.blocks.proofs.cut_out.Goals.{then-is_in+in_ok-cut, else-is_in}

pub loop-z-init : goal.loop-z-init
unfolding bare
loop-z-init c = record { out = cut-none _ _ _ _ _ refl (refl, (refl, refl)); zeros = refl }

pub loop-z-preserved : goal.loop-z-preserved
loop-z-preserved c =
    let a = c.args in
    let p = c.loop-z in
    elim c.if-is_in.branch [
      | then-is_in+in_ok-cut w ↦
          let g = w.in_ok-cut.ensures.1 p.invariant.out in
          record { out = rw w.cut-is g.0; zeros = w.row-is ∙ g.1 a.row.now p.invariant.zeros }
      | else-is_in w ↦
          let out = sym c.is_in.ensures ∙ w.if-is_in.false in
          record {
            out = rw w.cut-is (cut_skip a.l a.cells a.i a.y.now p.z p.cut out p.invariant.out);
            zeros = w.row-is ∙ (p.invariant.zeros ∙ sym (bare_out a.l a.cells a.i p.z a.row.now out));
          }
    ]
