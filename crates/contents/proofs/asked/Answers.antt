-- The sum of the line with a zero for the chunk and what the chunk brings make its sum.
use Rattle.std.proofs.Common.{◌+◌, ◌-◌, ◌*◌, ◌%◌, ◌<◌, ◌≤◌, ◌≡◌, ◌∙◌, length, set, arith}
use Rattle.vt.specs.Sum.{sum}
use Rattle.message.proofs.Fields.{field_room}
use Rattle.message.proofs.Positions.{sum-high}
use Rattle.lines.specs.Lines.{line}
use Rattle.lines.proofs.Lines.{length-line}
use Rattle.lines.proofs.Parts.{sum-set, sum-rest}
use Rattle.contents.proofs.asked.Goals as goal
use Rattle.contents.proofs.asked.Goals.{After-line_total-whole}

-- the chunk stands in the row
stands : (c : After-line_total-whole) → c.args.start + c.args.t * c.args.stride < length c.args.row.now
stands c = omega (arith, field_room c.args.count c.args.stride c.args.t c.requires.1.1, c.requires.0.last)

-- what it leaves of the total of the line
rest : (c : After-line_total-whole) → let a = c.args in
    (c.chunk_total-own.result ≤ c.line_total-whole.result)
    × ((c.line_total-whole.result - c.chunk_total-own.result) % (a.count * a.nc + 1)
    ≡ sum (line a.nc a.start a.stride a.count (set a.row.now (a.start + a.t * a.stride) 0)))
rest c =
    let a = c.args in
    sum-rest a.nc a.start a.stride a.count a.t c.requires.1.1 a.row.now c.requires.1.0 (stands c)
    c.line_total-whole.result c.chunk_total-own.result c.line_total-whole.ensures c.chunk_total-own.ensures.0

pub overflow_sub-result : goal.overflow_sub-result
overflow_sub-result c = (rest (goal.at.overflow_sub-result c).After-line_total-whole).0

pub returns : goal.returns
returns c =
    let s = (goal.at.returns c).After-line_total-whole in
    let a = c.args in
    let bare = set a.row.now (a.start + a.t * a.stride) 0 in
    let low = sum-high (line a.nc a.start a.stride a.count bare) in
    let n = length-line a.nc a.start a.stride a.count bare in
    let room = field_room a.count a.nc a.t c.requires.1.1 in
    let e = (rest s).1 in (
      record {
        rest = rw e (omega arith);
        first-low = omega arith;
        first = omega arith;
        modulus = omega arith;
      },
      λ v k. rw e (sum-set a.nc a.start a.stride a.count a.t c.requires.1.1 a.row.now c.requires.1.0 (stands s) v ∙ k),
    )
