use Rattle.std.proofs.Common.{List, ℕ, ◌≡◌, ◌∙◌, ◌+◌, sym, length, arith}
use Rattle.bits.proofs.Laws.{same_next, same_stop, same_end}
use Rattle.message.specs.Chunks.{row_of}
use Rattle.message.specs.Message.{sums}
use Rattle.message.specs.declared.chunks.Row.{Row}
use Rattle.message.proofs.RowSums.{length-sums}
use Rattle.consistent.proofs.sums_agree.Goals as goal

-- the sums of a row
abbrev own : Row → List ℕ
own r = sums r.layout (row_of r.layout.nc r.chunks.now)

count : (r : Row) → length (own r) ≡ r.layout.l1 + r.layout.l2
count r = length-sums r.layout (row_of r.layout.nc r.chunks.now)

pub returns-then-sum-from : goal.returns-then-sum-from
returns-then-sum-from c =
    let r = c.args.row.now in
    let ns : List ℕ = c.args.numbers.now in
    let p = c.loop-k in
    sym (sym p.invariant
    ∙ same_stop (own r) ns p.k (omega (arith, count r, c.requires)) (omega arith)
    (λ e. c.if-sum-from.true (c.sum.ensures ∙ e ∙ sym c.from.ensures)))

pub loop-k-preserved : goal.loop-k-preserved
loop-k-preserved c =
    let r = c.args.row.now in
    let ns : List ℕ = c.args.numbers.now in
    let p = c.loop-k in
    same_next (own r) ns p.k (omega (arith, count r, c.requires)) (omega arith)
    (sym c.sum.ensures ∙ c.if-sum-from.false ∙ c.from.ensures) ∙ p.invariant

pub returns : goal.returns
returns c =
    let r = c.args.row.now in
    let p = c.loop-k in
    sym (sym p.invariant
    ∙ same_end (own r) c.args.numbers.now p.k (omega (arith, count r, c.requires)) (omega arith))
