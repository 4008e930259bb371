use Rattle.std.proofs.Common.{◌≡◌, ◌-◌, ◌≤◌, true, length, take, sym, ◌∙◌, arith}
use lib.Seq.{length-take-le}
use Rattle.bits.proofs.Laws.{bits-take}
use Rattle.message.specs.Layout.{block_bits}
use Rattle.message.proofs.Legal.{legal_bounds, sizes}
use Rattle.pieces.proofs.Blocks.{sum-within, whole_not, whole-put}
use Rattle.pieces.proofs.whole_block.Goals as goal
use Rattle.pieces.proofs.whole_block.Goals.{After-has_sum}

pub overflow_mul-nb : goal.overflow_mul-nb
overflow_mul-nb c = omega (arith, (sizes c.args.l (legal_bounds c.args.l c.requires.0)).block)

pub returns-then-not-has_sum : goal.returns-then-not-has_sum
returns-then-not-has_sum c =
    let a = c.args in
    whole_not a.l a.s a.i a.rest.now a.row.now (sym c.has_sum.ensures ∙ c.if-not-has_sum.true)

-- where the next bits have the sum, enough remain
within : (c : After-has_sum) → c.has_sum.result ≡ true → block_bits c.args.l ≤ length c.args.rest.now
within c e = sum-within (block_bits c.args.l) c.args.s c.args.rest.now (sym c.has_sum.ensures ∙ e)

pub slice_bounds-put_block-end : goal.slice_bounds-put_block-end
slice_bounds-put_block-end c = within (goal.at.slice_bounds-put_block-end c).After-has_sum c.if-not-has_sum.false

pub put_block-requires : goal.put_block-requires
put_block-requires c =
    let a = c.args in
    let n = block_bits a.l in
    let enough = within (goal.at.put_block-requires c).After-has_sum c.if-not-has_sum.false in
    let size : length (take (n - 0) a.rest.now) ≡ n = length-take-le (n - 0) a.rest.now (omega arith) ∙ omega arith in
    (bits-take (n - 0) a.rest.now c.requires.1.0, ((legal_bounds a.l c.requires.0).nc_high, (size, c.requires.1.1.1)))

pub returns : goal.returns
returns c =
    let a = c.args in
    let z : block_bits a.l - 0 ≡ block_bits a.l = omega arith in
    whole-put a.l a.s a.i a.rest.now a.row.now c.put_block.new.row (sym c.has_sum.ensures ∙ c.if-not-has_sum.false)
    c.requires.1.1.1
    (rw z at c.put_block.ensures)
