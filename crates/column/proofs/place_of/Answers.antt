-- `column::place_of` meets its contract. Assumes nothing.
use Rattle.std.proofs.Common.{sym, arith, subst, ℕ}
use Rattle.message.proofs.Legal.{Lies, chunk_lies, legal_bounds}
use Rattle.column.proofs.place_of.Goals as goal
use Rattle.column.proofs.place_of.Goals.{After-from-2}

-- the chunk lies within its row
lies : (c : After-from-2) → let a = c.args in Lies a.l c.from-2.result a.j
lies c =
    let a = c.args in
    subst (λ (i : ℕ). Lies a.l i a.j) (sym c.from-2.ensures)
    (chunk_lies a.l c.requires.0.0 a.block a.j c.requires.1.0 c.requires.1.1)

pub overflow_mul-from : goal.overflow_mul-from
overflow_mul-from c = omega (arith, (lies (goal.at.overflow_mul-from c).After-from-2).low)

pub overflow_add-from : goal.overflow_add-from
overflow_add-from c = omega (arith, (lies (goal.at.overflow_add-from c).After-from-2).low)

pub overflow_mul-from-2 : goal.overflow_mul-from-2
overflow_mul-from-2 c = omega (arith, (lies (goal.at.overflow_mul-from-2 c).After-from-2).in_row)

pub overflow_add-from-2 : goal.overflow_add-from-2
overflow_add-from-2 c = omega (arith, (lies (goal.at.overflow_add-from-2 c).After-from-2).in_row)

pub overflow_add-ok : goal.overflow_add-ok
overflow_add-ok c =
    omega (arith, (lies (goal.at.overflow_add-ok c).After-from-2).in_row, (legal_bounds c.args.l c.requires.0.0).nc_high)
