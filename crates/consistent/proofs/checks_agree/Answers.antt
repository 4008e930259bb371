use Rattle.std.proofs.Common.{rules, List, ℕ, ◌∙◌, ap}
use Rattle.bits.specs.Bits.{same}
use Rattle.message.specs.declared.chunks.Row.{Row}
use Rattle.message.proofs.Legal.{Bounds, legal_bounds}
use Rattle.consistent.proofs.checks_agree.Goals as goal

bounds : (r : Row) → Bounds r.layout
bounds r = legal_bounds r.layout r.is_legal

pub fill_checks-requires : goal.fill_checks-requires
fill_checks-requires c = (bounds c.args.row.now).r_high

pub slice_bounds-values-end : goal.slice_bounds-values-end
slice_bounds-values-end c = let h = (bounds c.args.row.now).r_high in search rules

pub slice_bounds-equal-end : goal.slice_bounds-equal-end
slice_bounds-equal-end c = let h = (bounds c.args.row.now).r_high in search rules

pub equal-requires : goal.equal-requires
equal-requires c = let h = (bounds c.args.row.now).r_high in search rules

pub returns : goal.returns
returns c = c.equal.ensures ∙ ap (λ (v : List ℕ). same v c.args.numbers.now) c.fill_checks.ensures
