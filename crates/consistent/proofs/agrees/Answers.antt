use Rattle.std.proofs.Common.{List, ℕ, ◌∙◌, ◌*◌, ◌≤◌, rules, take_all, ap, ◌++◌, arith}
use Rattle.bits.specs.Bits.{most_chunks, same}
use Rattle.message.specs.Layout.{row_bits}
use Rattle.message.specs.Message.{sums, checks}
use Rattle.message.specs.declared.layouts.Legal.{Legal}
use Rattle.message.proofs.Assembly.{chunks_elements, length_lent, row_again}
use Rattle.message.proofs.Legal.{legal_bounds, sizes}
use Rattle.consistent.proofs.agrees.Goals as goal

few : (l : Legal) → l.layout.l1 * l.layout.l2 ≤ most_chunks
few l = (sizes l.layout (legal_bounds l.layout l.is_legal)).chunks

pub fill_chunks-requires : goal.fill_chunks-requires
fill_chunks-requires c = (c.requires.0, (c.requires.1.0, few c.args.l))

pub overflow_mul-n : goal.overflow_mul-n
overflow_mul-n c = omega (arith, few c.args.l)

pub slice_bounds-chunks-end : goal.slice_bounds-chunks-end
slice_bounds-chunks-end c = let h = few c.args.l in search rules

pub slice_bounds-row-end : goal.slice_bounds-row-end
slice_bounds-row-end c = let h = few c.args.l in search rules

pub invariant_of-row : goal.invariant_of-row
invariant_of-row c =
    let l = c.args.l in
    let x : List ℕ = c.args.x.now in
    let e = c.fill_chunks.ensures in
    record { is_legal = l.is_legal; chunked = (length_lent l.layout x c.requires.0 _ _ e, chunks_elements l.layout x c.requires.0 _ _ e) }

pub returns : goal.returns
returns c =
    let l = c.args.l.layout in
    let x : List ℕ = c.args.x.now in
    let again =
    row_again l x c.requires.0 _ _ c.fill_chunks.ensures (omega (arith, c.requires.1.0))
    ∙ take_all (row_bits l) x (omega (arith, c.requires.1.0)) in
    c.row_agrees.ensures ∙ ap (λ (z : List ℕ). same (sums l z ++ checks l z) c.args.numbers.now) again
