-- With the row's own content the block has its sum.
use Rattle.std.proofs.Common.{◌≡◌, ◌<◌, length, get_or, sym, ◌∙◌, arith, rules}
use borrow.Author.Tests.{eqb-true}
use Rattle.lines.specs.Lines.{values}
use Rattle.lines.proofs.Lines.{block_inside}
use Rattle.cells.specs.Cells.{chunk_of}
use Rattle.cells.proofs.State.{chunk_inside}
use Rattle.fill.proofs.Rows.{block_alone}
use Rattle.fill.proofs.ask_block.Goals as goal

pub asked-requires : goal.asked-requires
asked-requires c =
    let a = c.args in
    let q = c.requires.1.1.1 in (
      rw c.from-i.ensures (block_inside a.l c.requires.0.0 (length a.row.now) c.requires.0.1 _ q.0),
      (omega arith, rw c.from-j.ensures q.1),
    )

pub returns : goal.returns
returns c =
    let a = c.args in
    let q = c.requires.1.1.1 in
    let size : length a.cells.block ≡ 12 = search rules in
    let inside : chunk_of a.l a.cells a.z < length a.row.now = omega (arith, c.requires.0.1, chunk_inside a.l _ _ q.0 q.1) in
    let alone = eqb-true _ _ (sym c.alone.ensures ∙ c.if-not-alone.false) in (
      c.asked.ensures.0,
      λ y x g s u.
          let has = block_alone g s u a.z inside size q.0 alone in
          c.asked.ensures.1 (get_or (values a.l x) (chunk_of a.l a.cells a.z) 0)
          (rw (c.from-sum.ensures, c.from-i.ensures, c.from-j.ensures) has),
    )
