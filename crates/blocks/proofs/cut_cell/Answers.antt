-- `blocks::cut_cell` meets its contract. Rests on Cutting.antt. Assumes nothing.
use Rattle.std.proofs.Common.{ℕ, List, ◌+◌, ◌*◌, ◌<◌, ◌≤◌, sym, ap, ◌∙◌, length, get_or, set, length-set, arith}
use Rattle.bits.specs.Bits.{most_chunks}
use Rattle.column.proofs.Rows.{chunk_stands}
use Rattle.blocks.proofs.Cutting.{bare_in, in_open, cut-next}
use Rattle.blocks.proofs.cut_cell.Goals as goal
use Rattle.blocks.proofs.cut_cell.Goals.{Start}

-- the cell's chunk stands in the row
record Stands (columns column place size at : ℕ) : Type 0 where
  within : column < columns
  there : place ≤ size
  low : at < most_chunks

stands : (c : Start) → let a = c.args in
    Stands a.l.l2 (get_or a.cells.column a.z 0) (get_or a.cells.place a.z 0) (length a.y.now)
    (a.i * a.l.l2 + get_or a.cells.column a.z 0)
stands c =
    let a = c.args in
    let o = in_open a.l a.cells a.i a.z c.requires.1.1.0 c.requires.1.1.1.0 in
    let p = c.requires.1.0 a.z o.0 in
    record {
      within = p.1.0;
      there = p.1.1;
      low = (chunk_stands a.l c.requires.0.0 a.i (get_or a.cells.column a.z 0) c.requires.0.1 p.1.0).1.0;
    }

pub overflow_mul-row : goal.overflow_mul-row
overflow_mul-row c = omega (arith, (stands (goal.at.overflow_mul-row c).Start).low)

pub overflow_add-row : goal.overflow_add-row
overflow_add-row c = omega (arith, (stands (goal.at.overflow_add-row c).Start).low, c.from.ensures)

pub bounds-row-i : goal.bounds-row-i
bounds-row-i c = omega (arith, (stands (goal.at.bounds-row-i c).Start).low, c.from.ensures)

pub returns : goal.returns
returns c =
    let a = c.args in
    let here = c.requires.1.1.1.0 in
    let q = stands (goal.at.returns c).Start in
    let j = get_or a.cells.column a.z 0 in
    let at = ap (λ (k : ℕ). a.i * a.l.l2 + k) c.from.ensures in (
      length-set a.row.now (a.i * a.l.l2 + c.from.result) 0,
      λ cut. (
        cut-next a.l a.cells a.i a.y.now a.z a.cut c.in_ok-longer.longer c.requires.1.1.0 here q.within q.there
            c.in_ok-longer.ensures cut,
        λ vs was.
            ap (λ (k : ℕ). set a.row.now k 0) at ∙ ap (λ (u : List ℕ). set u (a.i * a.l.l2 + j) 0) was
            ∙ sym (bare_in a.l a.cells a.i a.z vs here),
      ),
    )
