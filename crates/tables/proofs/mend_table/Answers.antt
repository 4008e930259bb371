use Rattle.std.proofs.Common.{sym, ◌∙◌}
use Rattle.std.proofs.lemmas.Bool.{false≢true}
use Rattle.cells.proofs.Same.{same_refl}
use Rattle.found.proofs.Found.{grown_nothing}
use Rattle.tables.proofs.mend_table.Goals as goal

pub returns : goal.returns
returns c = (
  grown_nothing c.requires.1.0 (λ x s w. false≢true (sym c.if-none_left.false ∙ c.none_left.ensures.1 w.0)),
  same_refl,
)
