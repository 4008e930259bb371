use Rattle.std.proofs.Common.{rules, ◌≤◌, length, take, arith}
use Rattle.bits.specs.Bits.{longest, unpack}
use Rattle.message.specs.Layout.{row_bits}
use Rattle.message.proofs.Legal.{legal_bounds, sizes}
use Rattle.found.specs.Found.{Listed}
use Rattle.lister.specs.Rows.{room_for}
use Rattle.lister.proofs.Answers.{more-found, all_found, slice-found, searched}
use Rattle.lister.proofs.Lent.{row_low, row-high, few_bits, bits_lent, room_fits}
use Rattle.lister.proofs.list_rows.Goals as goal
use Rattle.lister.proofs.list_rows.Goals.{Start, After-search-kept}

few : (c : Start) → c.args.m ≤ longest
few c = few_bits c.args.l c.args.numbers.now c.args.row.now c.args.m c.requires.0 c.requires.1

-- a row has from 1 to 2,040 bits
row-size : (c : Start) → (1 ≤ row_bits c.args.l) × (row_bits c.args.l ≤ longest)
row-size c = (
  row_low c.args.l c.requires.0.is_legal,
  row-high c.args.l c.args.numbers.now c.args.row.now c.args.m c.requires.0 c.requires.1,
)

pub unpack-requires : goal.unpack-requires
unpack-requires c = (c.requires.1, few (goal.at.unpack-requires c).Start)

pub overflow_mul-n : goal.overflow_mul-n
overflow_mul-n c = omega (arith, (sizes c.args.l (legal_bounds c.args.l c.requires.0.is_legal)).chunks)

pub room-cap-requires : goal.room-cap-requires
room-cap-requires c = row-size (goal.at.room-cap-requires c).Start

pub slice_bounds-y-end : goal.slice_bounds-y-end
slice_bounds-y-end c = let h = few (goal.at.slice_bounds-y-end c).Start in search rules

pub slice_bounds-search-end : goal.slice_bounds-search-end
slice_bounds-search-end c = let h = few (goal.at.slice_bounds-search-end c).Start in search rules

pub search-kept-requires : goal.search-kept-requires
search-kept-requires c =
    let a = c.args in
    let e = bits_lent a.l a.numbers.now a.row.now a.m c.requires.0 c.requires.1 c.unpack.new.out _ c.unpack.ensures in
    (rw e c.requires.0, rw c.room-cap.ensures (room_fits (row_bits a.l) (length a.out.now)))

-- what the search leaves, by the room and the bits of the row
found : (c : After-search-kept) → let a = c.args in
    Listed a.l a.numbers.now (take a.m (unpack a.row.now)) (room_for (row_bits a.l) (length a.out.now))
    a.out.now c.search-kept.new.list c.search-kept.result.count c.search-kept.result.more
found c =
    let a = c.args in
    let e = bits_lent a.l a.numbers.now a.row.now a.m c.requires.0 c.requires.1 c.unpack.new.out _ c.unpack.ensures in
    searched a.l a.numbers.now _ c.search-kept.ensures e c.room-cap.ensures

pub returns-then-kept : goal.returns-then-kept
returns-then-kept c =
    let a = c.args in
    let f = found (goal.at.returns-then-kept c).After-search-kept in
    let y = take a.m (unpack a.row.now) in
    (more-found a.l a.numbers.now y f c.if-kept.true, slice-found a.l a.numbers.now y f)

pub returns : goal.returns
returns c =
    let a = c.args in
    let f = found (goal.at.returns c).After-search-kept in
    let y = take a.m (unpack a.row.now) in
    (all_found a.l a.numbers.now y f c.if-kept.false, slice-found a.l a.numbers.now y f)
