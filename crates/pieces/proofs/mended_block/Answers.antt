-- A block with one loss is the mended string of the next nb - 1 bits.
use Rattle.std.proofs.Common.{◌≡◌, ◌-◌, ◌*◌, ◌≤◌, take, sym, ◌∙◌, arith, ℕ, length-take}
use native.Mathlib.Nat.{mul-le-mul}
use Rattle.bits.proofs.Laws.{bits-take}
use Rattle.vt.specs.Mend.{mended as mended_bits}
use Rattle.message.specs.Layout.{block_bits}
use Rattle.message.proofs.Legal.{Sizes, legal_bounds, sizes}
use Rattle.pieces.proofs.Blocks.{one_not, one-put, too_short, MendedNext, mended-next, starts-mended}
use Rattle.pieces.proofs.mended_block.Goals as goal
use Rattle.pieces.proofs.mended_block.Goals.{Start, Else-rest-short, After-mend_bits}

-- a block has bits, and not too many
size : (c : Start) → (1 ≤ block_bits c.args.l) × Sizes c.args.l
size c =
    let l = c.args.l in
    let b = legal_bounds l c.requires.0 in
    let p : 1 * 3 ≤ l.l2 * l.nc = mul-le-mul b.l2_low b.nc_low in
    (omega arith, sizes l b)

pub overflow_mul-nb : goal.overflow_mul-nb
overflow_mul-nb c = omega (arith, (size (goal.at.overflow_mul-nb c).Start).1.block)

pub overflow_sub-short : goal.overflow_sub-short
overflow_sub-short c = omega (arith, (size (goal.at.overflow_sub-short c).Start).0)

pub returns-then-rest-short : goal.returns-then-rest-short
returns-then-rest-short c =
    let a = c.args in
    too_short a.l a.s a.i 1 a.rest.now a.row.now (omega arith)

pub returns-then-has_sum : goal.returns-then-has_sum
returns-then-has_sum c =
    let a = c.args in
    one_not a.l a.s a.i a.rest.now a.row.now c.requires.1.0 (sym c.has_sum.ensures ∙ c.if-has_sum.true)

-- the block that is mended
mended : (c : Else-rest-short) → MendedNext (block_bits c.args.l) c.args.s c.args.rest.now
mended c =
    let a = c.args in
    mended-next (block_bits a.l) a.s a.rest.now (size (goal.at.Else-rest-short c).Start).0 (omega arith) c.requires.1.0
    c.requires.1.1.1.0

pub mend_bits-requires : goal.mend_bits-requires
mend_bits-requires c =
    let s = size (goal.at.mend_bits-requires c).Start in
    let small : c.args.s ≤ block_bits c.args.l = c.requires.1.1.1.0 in (
      (bits-take _ _ c.requires.1.0, omega (arith, s.0, s.1.block, length-take {A = ℕ})),
      (omega (arith, s.0, length-take {A = ℕ}), omega (arith, s.0, s.1.block, length-take {A = ℕ})),
    )

-- it stands at the start of the slice
block : (c : After-mend_bits) →
    let a = c.args in
    take (block_bits a.l - 0) c.mend_bits.new.out ≡ mended_bits (block_bits a.l) a.s (take (block_bits a.l - 1) a.rest.now)
block c =
    let a = c.args in
    let n = block_bits a.l in
    let z : n - 0 ≡ n = omega arith in
    let y : n - 1 - 0 ≡ n - 1 = omega arith in
    rw z (starts-mended n a.s a.rest.now (mended (goal.at.After-mend_bits c).Else-rest-short) c.mend_bits.new.out _
    (rw y at c.mend_bits.ensures))

pub slice_bounds-put_block-end : goal.slice_bounds-put_block-end
slice_bounds-put_block-end c = omega (arith, (size (goal.at.slice_bounds-put_block-end c).Start).1.block)

pub put_block-requires : goal.put_block-requires
put_block-requires c =
    let at = goal.at.put_block-requires c in
    let e = block at.After-mend_bits in
    let m = mended at.Else-rest-short in
    (rw e m.bits, ((legal_bounds c.args.l c.requires.0).nc_high, (rw e m.size, c.requires.1.1.1.1)))

pub returns : goal.returns
returns c =
    let a = c.args in
    let at = goal.at.returns c in
    one-put a.l a.s a.i a.rest.now a.row.now c.put_block.new.row (size at.Start).0 (omega arith) c.requires.1.1.1.1
    (rw (block at.After-mend_bits) at c.put_block.ensures)
