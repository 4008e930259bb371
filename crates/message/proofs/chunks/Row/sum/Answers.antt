-- A block, or a chunk-string behind the blocks, is a line of chunks.
use Rattle.std.proofs.Common.{◌∙◌, ◌-◌, arith}
use native.Mathlib.Nat.{mul-one, mul_comm}
use Rattle.message.specs.Chunks.{row_of}
use Rattle.message.specs.declared.chunks.Row.{Row}
use Rattle.message.proofs.Fields.{field_room}
use Rattle.message.proofs.Legal.{Bounds, Sizes, legal_bounds, sizes}
use Rattle.message.proofs.Picking.{block_line, string_line}
use Rattle.message.proofs.RowSums.{sum_of_block, sum_of_string}
use Rattle.message.proofs.chunks.Row.sum.Goals as goal

bounds : (r : Row) → Bounds r.layout
bounds r = legal_bounds r.layout r.is_legal

high : (r : Row) → Sizes r.layout
high r = sizes r.layout (bounds r)

pub line_sum-requires : goal.line_sum-requires
line_sum-requires c =
    let r = c.args.self.now in
    let y = r.layout in (
      ((bounds r).nc_high, r.chunked.1),
      (
        ((high r).l2_high, omega arith),
        ((high r).block, omega (arith, field_room y.l1 y.l2 c.args.k c.if-k-l1.true, r.chunked.0, mul-one y.l2)),
      ),
    )

pub returns-then-k-l1 : goal.returns-then-k-l1
returns-then-k-l1 c =
    let r = c.args.self.now in
    c.line_sum.ensures ∙ block_line r.layout r.chunks.now r.chunked c.args.k c.if-k-l1.true
    ∙ sum_of_block r.layout (row_of r.layout.nc r.chunks.now) c.args.k c.if-k-l1.true

pub line_sum-requires-2 : goal.line_sum-requires-2
line_sum-requires-2 c =
    let r = c.args.self.now in
    let y = r.layout in (
      ((bounds r).nc_high, r.chunked.1),
      (
        ((high r).l1_high, (high r).l2_high),
        (
          omega (arith, (high r).string, mul_comm y.l1 y.nc),
          omega (arith, c.requires, r.chunked.0, c.if-k-l1.false),
        ),
      ),
    )

pub returns : goal.returns
returns c =
    let r = c.args.self.now in
    c.line_sum-2.ensures
    ∙ string_line r.layout r.chunks.now r.chunked (c.args.k - r.layout.l1) (omega (arith, c.requires, c.if-k-l1.false))
    ∙ sum_of_string r.layout (row_of r.layout.nc r.chunks.now) c.args.k c.if-k-l1.false
