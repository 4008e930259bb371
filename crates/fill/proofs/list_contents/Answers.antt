-- The row's own content loses just the cell's count, and its sums allow it.
use Rattle.std.proofs.Common.{arith}
use Rattle.message.proofs.Legal.{legal_bounds}
use Rattle.lines.proofs.Lines.{value_low}
use Rattle.cells.specs.Cells.{chunk_of}
use Rattle.fill.proofs.list_contents.Goals as goal

pub contents-all-requires : goal.contents-all-requires
contents-all-requires c =
    let q = c.requires.1.0.0 c.args.z c.requires.1.0.1 in
    ((legal_bounds c.args.l c.requires.0.0.is_legal).nc_high, (q.1.1, c.requires.1.1))

pub sift-some-requires : goal.sift-some-requires
sift-some-requires c =
    ((legal_bounds c.args.l c.requires.0.0.is_legal).nc_high, (c.ask_string.ensures.0, omega arith))

pub sift-requires : goal.sift-requires
sift-requires c =
    ((legal_bounds c.args.l c.requires.0.0.is_legal).nc_high, (c.ask_block.ensures.0, omega arith))

pub returns : goal.returns
returns c =
    let a = c.args in (
      omega arith,
      λ x r u.
          let low = value_low a.l x r.0 (chunk_of a.l a.cells a.z) in
          let is-listed = c.contents-all.ensures.1 _ low (u.loses a.z c.requires.1.0.1) in
          let is-kept = c.sift-some.ensures.1 _ is-listed (c.ask_string.ensures.1 a.y.now x c.requires.0.0 r u) in
          c.sift.ensures.1 _ is-kept (c.ask_block.ensures.1 a.y.now x c.requires.0.0 r u),
    )
