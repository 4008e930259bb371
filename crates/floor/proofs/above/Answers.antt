-- What comes after the last row held is known.
use Rattle.std.proofs.Common.{◌≡◌, ◌∙◌, ℕ, ◌+◌, ◌-◌, ◌*◌, ◌<◌, ◌≤◌, length, arith}
use borrow.Author.Tests.{not-false}
use Rattle.std.proofs.lemmas.List.Edits.{length-between}
use Rattle.bits.specs.Bits.{bytes_for}
use Rattle.message.specs.Layout.{row_bits}
use Rattle.consistent.specs.Query.{query}
use Rattle.found.specs.Given.{consistent_with}
use Rattle.found.specs.Sought.{Sought}
use Rattle.floor.proofs.Floor.{none-known, last-known, last-room}
use Rattle.floor.proofs.above.Goals as goal
use Rattle.floor.proofs.above.Goals.{Start, Else-kept-eq0}

-- the rows that are looked for
abbrev sought : Start → Sought
sought c = let a = c.args in consistent_with (query a.l a.numbers.now a.y.now)

some : (c : Else-kept-eq0) → 0 < c.args.kept.count
some c = omega (arith, c.if-kept-eq0.false)

-- the last row stands in the list
room : (c : Else-kept-eq0) (w : ℕ) → w ≡ bytes_for (row_bits c.args.l) → (c.args.kept.count - 1) * w + w ≤ length c.args.list.now
room c w e = rw e (last-room (sought (goal.at.Else-kept-eq0 c).Start) c.args.list.now c.args.kept c.requires.1.0 (some c))

pub returns-then-kept-eq0 : goal.returns-then-kept-eq0
returns-then-kept-eq0 c =
    let a = c.args in
    λ e x sent own light.
    none-known (sought (goal.at.returns-then-kept-eq0 c).Start) a.list.now a.kept c.if-kept-eq0.true
    (not-false _ c.if-not-kept.false) x

pub overflow_mul-at : goal.overflow_mul-at
overflow_mul-at c =
    omega (arith, room (goal.at.overflow_mul-at c).Else-kept-eq0 c.div_ceil-w.result (omega arith))

pub overflow_add-end : goal.overflow_add-end
overflow_add-end c =
    omega (arith, room (goal.at.overflow_add-end c).Else-kept-eq0 c.div_ceil-w.result (omega arith))

pub slice_bounds-after_row-end : goal.slice_bounds-after_row-end
slice_bounds-after_row-end c =
    omega (arith, room (goal.at.slice_bounds-after_row-end c).Else-kept-eq0 c.div_ceil-w.result (omega arith))

-- the part that is lent is one row wide
width : (at w : ℕ) → at + w - at ≡ w
width at w = omega arith

pub after_row-requires : goal.after_row-requires
after_row-requires c =
    let a = c.args in
    let w = c.div_ceil-w.result in
    let at : ℕ = (a.kept.count - 1) * w in
    let e : c.div_ceil-w.result ≡ bytes_for (row_bits a.l) = omega arith in
    let there = room (goal.at.after_row-requires c).Else-kept-eq0 w e in
    let part = length-between a.list.now at (at + w) there ∙ width at w ∙ e in
    (c.requires.0.is_legal, (c.requires.0.bits, (c.requires.1.1.0, (c.requires.1.1.1, part))))

pub returns : goal.returns
returns c =
    let a = c.args in
    let at = goal.at.returns c in
    let w : c.div_ceil-w.result ≡ bytes_for (row_bits a.l) = omega arith in
    let more = not-false _ c.if-not-kept.false in
    λ e x sent own light.
    last-known (sought at.Start) a.list.now a.kept c.requires.1.0 (some at.Else-kept-eq0) more x sent.0
    (rw (width ((a.kept.count - 1) * c.div_ceil-w.result) c.div_ceil-w.result, w) at (c.after_row.ensures e x sent.0 own light))
