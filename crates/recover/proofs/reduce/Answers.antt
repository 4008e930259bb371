use Rattle.std.proofs.Common.{◌%◌, ◌^◌, get_or, arith}
use Rattle.std.proofs.lemmas.List.Edits.{fill_by_more}
use Rattle.std.specs.Int.Bits.{and_mask}
use Rattle.recover.proofs.reduce.Goals as goal

pub loop-c-preserved : goal.loop-c-preserved
loop-c-preserved c =
    let o = c.loop-c in
    let row = c.args.row.now in
    rw (c.order-ones.ensures, and_mask (get_or row o.c 0) c.args.nc)
    (fill_by_more (λ k. get_or row k 0 % 2 ^ c.args.nc) o.out o.c 0 (omega arith) o.invariant)
