-- A consistent row under the state has the line's sum and lost one bit in the cell, so the cell is mended to its chunk.
use Rattle.std.proofs.Common.{◌≡◌, ℕ, ◌+◌, ◌*◌, List, length, get_or, take, drop, set, Some, refl, sym, ap, ap₂, subst, ◌∙◌, arith, rules}
use Rattle.std.proofs.lemmas.List.{length-take-le}
use Rattle.lines.specs.Lines.{values}
use Rattle.found.specs.Found.{Sent}
use Rattle.cells.specs.Cells.{chunk_of, OpenAt, SameBut, Under}
use Rattle.cells.proofs.Same.{same_refl, under_same}
use Rattle.cells.proofs.State.{chunk_inside}
use Rattle.turns.specs.Turns.{line_of, Ready, chunk_at, Short}
use Rattle.turns.specs.declared.Line.{Line}
use Rattle.turns.proofs.Short.{block_low, column-low, single_ready, single_short, single_found, single_set, front_same}
use Rattle.turns.proofs.mend_one.Goals as goal
use Rattle.turns.proofs.mend_one.Goals.{After-line_of-n, After-mend_cell}

-- the line that is mended is that of the cell's block and column
line-here : (c : After-line_of-n) → let a = c.args in
    c.line_of-n.result ≡ line_of a.strings a.l (get_or a.cells.block a.z 0) (get_or a.cells.column a.z 0)
line-here c =
    let a = c.args in
    c.line_of-n.ensures ∙ ap₂ (line_of a.strings a.l) c.from-i.ensures c.from-j.ensures

pub mend_cell-requires : goal.mend_cell-requires
mend_cell-requires c =
    let a = c.args in
    let p = c.requires.1 in
    let count : ℕ = a.l.l1 * a.l.l2 in
    rw (length-take-le count a.row.now c.requires.0.1, c.from-sum.ensures)
    (subst (λ (n : Line). Ready a.l.nc a.y.now (get_or a.cells.place a.z 0) n (get_or a.numbers.now n.number 0) count)
    (sym (line-here (goal.at.mend_cell-requires c).After-line_of-n))
    (single_ready c.requires.0.0 a.cells p.0 a.strings p.1.0 p.1.1))

-- a consistent row under the state has the chunk that is found there
found-there : (c : After-mend_cell) → let a = c.args in
    (x : List ℕ) → Sent a.l a.numbers.now a.y.now x → Under a.l a.y.now a.cells a.row.now x
    → c.mend_cell.result ≡ Some (chunk_at c.line_of-n.result (values a.l x))
found-there c x t u =
    let a = c.args in
    let p = c.requires.1 in
    let blocks : length a.cells.block ≡ 12 = search rules in
    let columns : length a.cells.column ≡ 12 = search rules in
    let z = drop (get_or a.cells.place a.z 0) a.y.now in
    let front = take (a.l.l1 * a.l.l2) a.row.now in
    let v = under_same (front_same a.l (OpenAt a.cells) a.row.now) u in
    let short = single_short c.requires.0.0 a.cells p.0 a.strings p.1.0 p.1.1 blocks columns t v in
    c.mend_cell.ensures (values a.l x)
    (rw c.from-sum.ensures
    (subst (λ (n : Line). Short a.l.nc n (get_or a.numbers.now n.number 0) z front (values a.l x))
    (sym (c.line_of-n.ensures ∙ ap₂ (line_of a.strings a.l) c.from-i.ensures c.from-j.ensures)) short))

pub returns-in_default : goal.returns-in_default
returns-in_default c = record {
  any = refl;
  closed = refl;
  keeps = λ x t u.
      let there = found-there (goal.at.returns-in_default c).After-mend_cell x t u in
      absurd (c.in_default.not-Some _ there);
  same = same_refl;
}

pub bounds-row-i : goal.bounds-row-i
bounds-row-i c =
    let a = c.args in
    let p = c.requires.1 in
    let block = block_low c.requires.0.0 a.cells p.0 a.strings p.1.0 p.1.1 in
    let column = column-low c.requires.0.0 a.cells p.0 a.strings p.1.0 p.1.1 in
    rw (c.from-i.ensures, c.from-j.ensures)
    (omega (arith, chunk_inside a.l (get_or a.cells.block a.z 0) (get_or a.cells.column a.z 0) block column, c.requires.0.1))

pub returns : goal.returns
returns c =
    let a = c.args in
    let p = c.requires.1 in
    let blocks : length a.cells.block ≡ 12 = search rules in
    let columns : length a.cells.column ≡ 12 = search rules in
    let here : c.from-i.result * a.l.l2 + c.from-j.result ≡ chunk_of a.l a.cells a.z =
    ap₂ (λ (i j : ℕ). i * a.l.l2 + j) c.from-i.ensures c.from-j.ensures in
    record {
      any = refl;
      closed = refl;
      keeps = λ x t u.
          let there = found-there (goal.at.returns c).After-mend_cell x t u in
          let v : c.in-Some.v ≡ chunk_at c.line_of-n.result (values a.l x) = cc (there, c.in-Some.is) in (
            refl,
            rw here
                (single_found c.requires.0.0 a.cells p.0 a.strings p.1.0 p.1.1 blocks columns t u c.requires.0.1
                (v ∙ ap (λ (n : Line). chunk_at n (values a.l x)) (line-here (goal.at.returns c).After-line_of-n))),
          );
      same =
          subst (λ (at : ℕ). SameBut a.l (OpenAt a.cells) a.row.now (set a.row.now at c.in-Some.v)) (sym here)
          (single_set c.requires.0.0 a.cells p.0 a.strings p.1.0 p.1.1 c.in-Some.v);
    }
