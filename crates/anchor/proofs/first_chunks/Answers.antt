use Rattle.std.proofs.Common.{rules, List, ℕ, ◌≡◌, ◌∙◌, ◌++◌, ◌*◌, ◌≤◌, ap, sym, subst, length, take, drop, arith}
use lib.Seq.{length-take-le, take_at}
use Rattle.bits.specs.Bits.{bytes_for, unpack}
use Rattle.bits.proofs.Laws.{bits-take, bits-unpack, length-unpack}
use Rattle.rows.specs.Order.{Row}
use Rattle.message.specs.Layout.{row_bits}
use Rattle.message.specs.declared.Layout.{Layout}
use Rattle.message.proofs.Legal.{Sizes, legal_bounds, sizes}
use Rattle.lines.specs.Lines.{values}
use Rattle.anchor.proofs.first_chunks.Goals as goal
use Rattle.anchor.proofs.first_chunks.Goals.{Start, After-unpack}

size : (c : Start) → Sizes c.args.l
size c = sizes c.args.l (legal_bounds c.args.l c.requires.0)

-- the first row of the list slice
abbrev first : (l : Layout) (list : List ℕ) → List ℕ
first l list = take (row_bits l) (unpack (take (bytes_for (row_bits l)) list))

first-row : (l : Layout) (list : List ℕ) → bytes_for (row_bits l) ≤ length list → Row (row_bits l) (first l list)
first-row l list h =
    let n = row_bits l in
    let bytes : List ℕ = take (bytes_for n) list in
    let w = length-take-le (bytes_for n) list h in
    (length-take-le n (unpack bytes) (omega (arith, length-unpack bytes)), bits-take n (unpack bytes) (bits-unpack bytes))

-- its bits are those that are unpacked
bits_are : (c : After-unpack) → take (row_bits c.args.l) c.unpack.new.out ≡ first c.args.l c.args.list.now
bits_are c =
    let n = row_bits c.args.l in
    let d : c.div_ceil.result ≡ bytes_for n = omega (arith, c.div_ceil.ensures) in
    let e = rw d at c.unpack.ensures in
    ap (take n) e ∙ take_at (first c.args.l c.args.list.now) _ n (first-row c.args.l c.args.list.now c.requires.1.0).0

pub overflow_mul-n-2 : goal.overflow_mul-n-2
overflow_mul-n-2 c = omega (arith, (sizes c.args.l (legal_bounds c.args.l c.requires.0)).row)

pub unpack-requires : goal.unpack-requires
unpack-requires c =
    let n = row_bits c.args.l in
    let d : c.div_ceil.result ≡ bytes_for n = omega (arith, c.div_ceil.ensures) in
    let w = length-take-le (bytes_for n) c.args.list.now c.requires.1.0 in
    (rw d (omega (arith, w)), (sizes c.args.l (legal_bounds c.args.l c.requires.0)).row)

pub slice_bounds-row-end : goal.slice_bounds-row-end
slice_bounds-row-end c = let h = (sizes c.args.l (legal_bounds c.args.l c.requires.0)).row in search rules

pub slice_bounds-fill_chunks-end : goal.slice_bounds-fill_chunks-end
slice_bounds-fill_chunks-end c = let h = (sizes c.args.l (legal_bounds c.args.l c.requires.0)).row in search rules

pub fill_chunks-requires : goal.fill_chunks-requires
fill_chunks-requires c =
    let l = c.args.l in
    let e = bits_are (goal.at.fill_chunks-requires c).After-unpack in
    let row = subst (Row (row_bits l)) (sym e) (first-row l c.args.list.now c.requires.1.0) in
    (row.1, (row.0, c.requires.1.1))

pub returns : goal.returns
unfolding values
returns c =
    let l = c.args.l in
    c.fill_chunks.ensures
    ∙ ap (λ (v : List ℕ). values l v ++ drop (l.l1 * l.l2) c.args.out.now) (bits_are (goal.at.returns c).After-unpack)
