-- `blocks::can_end` meets its contract: the block's total is that of the row with zeros and what its open cells bring.
-- Rests on Cutting.antt. Assumes nothing.
use Rattle.std.proofs.Common.{◌≡◌, ℕ, List, ◌+◌, ◌-◌, ◌*◌, ◌<◌, ◌≤◌, sym, ap, ◌∙◌, length, get_or, take, drop, arith}
use borrow.Rule.Slice.PartMut.{put_mid}
use Rattle.std.proofs.lemmas.List.{places}
use Rattle.bits.specs.Bits.{most_chunks}
use Rattle.vt.specs.Sum.{sum}
use Rattle.message.proofs.Fields.{field_room}
use Rattle.message.proofs.Legal.{legal_bounds, sizes}
use Rattle.lines.specs.Lines.{line}
use Rattle.lines.proofs.Lines.{block_inside}
use Rattle.lines.proofs.Turns.{sum_low}
use Rattle.weigh.specs.Weigh.{brought}
use Rattle.blocks.specs.Blocks.{bare, own_of}
use Rattle.blocks.proofs.Ends.{ended_brings}
use Rattle.blocks.proofs.can_end.Goals as goal
use Rattle.blocks.proofs.can_end.Goals.{Start}

-- the block stands in the row in hand and among as many chunks as a row has
block_room : (c : Start) → let a = c.args in
    (a.i * a.l.l2 + a.l.l2 ≤ length a.row.now) × (a.i * a.l.l2 + a.l.l2 ≤ most_chunks)
block_room c =
    let l = c.args.l in
    let f = field_room l.l1 l.l2 c.args.i c.requires.1.1.1.0.0 in
    (omega (arith, f, c.requires.1.1.1.0.1), omega (arith, f, (sizes l (legal_bounds l c.requires.0.0)).chunks))

-- numbers that are copied to their own places stand there
copied_at : (row out : List ℕ) (at n c : ℕ) → at + n ≤ length out → at + n ≤ length row → c < n
    → get_or (put_mid at (at + n - at) out (take (at + n - at) (drop at row))) (at + c) 0 ≡ get_or row (at + c) 0
copied_at row out at n c in-out in_row h = grind (arith, places)

pub slice_bounds-out-end : goal.slice_bounds-out-end
slice_bounds-out-end c = (block_room (goal.at.slice_bounds-out-end c).Start).1

pub returns-then-not-read_on : goal.returns-then-not-read_on
returns-then-not-read_on c vs e = sym c.if-not-read_on.true ∙ (c.read_on.ensures.later vs e.later).0

pub overflow_mul-modulus : goal.overflow_mul-modulus
overflow_mul-modulus c = omega (arith, (sizes c.args.l (legal_bounds c.args.l c.requires.0.0)).block)

pub overflow_add-modulus : goal.overflow_add-modulus
overflow_add-modulus c = omega (arith, (sizes c.args.l (legal_bounds c.args.l c.requires.0.0)).block)

pub line_sum-part-requires : goal.line_sum-part-requires
line_sum-part-requires c =
    let l = c.args.l in
    let size = sizes l (legal_bounds l c.requires.0.0) in
    block_inside l c.requires.0.0 _ (omega (arith, size.chunks)) c.args.i c.requires.1.1.1.0.0

pub missing-need-requires : goal.missing-need-requires
missing-need-requires c =
    let block = (sizes c.args.l (legal_bounds c.args.l c.requires.0.0)).block in
    (omega (arith, c.requires.1.1.1.1.1, c.from.ensures), omega (arith, block))

pub can_bring-requires : goal.can_bring-requires
can_bring-requires c =
    let b = legal_bounds c.args.l c.requires.0.0 in (
      (b.nc_high, (omega arith, omega (arith, (sizes c.args.l b).block))),
      (c.requires.0.1.0, (c.requires.0.1.1, (c.requires.1.0, (c.in-Some.ensures.0.few, c.missing-need.ensures.0)))),
    )

pub returns : goal.returns
returns c vs x =
    let a = c.args in
    let k = c.in-Some.cut in
    let d = c.in-Some.ensures in
    let out = c.read_on.new.row in
    let room = block_room (goal.at.returns c).Start in
    let is = c.copy_from_slice.ensures.after in
    -- before they are read on its chunks are those in hand
    let before : (q : ℕ) → q < a.j → q < a.l.l2 → get_or out (a.i * a.l.l2 + q) 0 ≡ get_or a.row.now (a.i * a.l.l2 + q) 0 =
    λ q h g. c.read_on.ensures.others q h ∙ rw is (copied_at a.row.now _ (a.i * a.l.l2) a.l.l2 q room.1 room.0 g) in
    let sum_is : c.line_sum-part.result ≡ sum (line a.l.nc (a.i * a.l.l2) 1 a.l.l2 (bare a.l a.cells a.i 12 out)) =
    c.line_sum-part.ensures ∙ ap (λ (u : List ℕ). sum (line a.l.nc (a.i * a.l.l2) 1 a.l.l2 u)) d.1 in
    let low = rw (← sum_is) at (sum_low a.l.nc (a.i * a.l.l2) 1 a.l.l2 (bare a.l a.cells a.i 12 out)) in
    let brings = ended_brings x out before (c.read_on.ensures.later vs x.later).1 k d.0 in
    let own = own_of a.l a.i k vs in
    let all = brought a.l.nc k.chunks.block own k.chunks.n in
    let need = c.missing-need.ensures.1 all low (rw (← c.from.ensures, ← sum_is) at brings) in
    c.can_bring.ensures own (d.0.can vs x.lose) need
