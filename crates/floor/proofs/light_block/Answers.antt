use Rattle.std.proofs.Common.{◌≡◌, ℕ, ◌+◌, ◌*◌, ◌<◌, ◌≤◌, length, get_or, sym, ap, ◌∙◌, arith}
use native.Mathlib.Nat.{add-mul, mul_assoc}
use Rattle.std.specs.List.{between}
use Rattle.std.proofs.lemmas.Cmp.{ranked}
use Rattle.std.proofs.lemmas.List.Edits.{length-between, get_or-between}
use Rattle.bits.specs.Bits.{unpack}
use Rattle.bits.proofs.Laws.{length-unpack, bits-unpack}
use Rattle.message.specs.Layout.{row_bits, block_bits}
use Rattle.message.proofs.Fields.{field_room}
use Rattle.message.proofs.Legal.{legal_bounds, sizes}
use Rattle.floor.proofs.Floor.{chunk-after, chunk-same, compared_same, compared_unlike}
use Rattle.floor.proofs.light_block.Goals as goal
use Rattle.floor.proofs.light_block.Goals.{At-loop-j, In-loop-j, After-cmp}

-- the block's chunks stand in the row, and as many are passed as it has
room : (c : At-loop-j) →
    let a = c.args in
    (a.b * a.l.l2 + a.l.l2 ≤ a.l.l1 * a.l.l2)
    × (length (between (a.b * a.l.l2) (a.b * a.l.l2 + a.l.l2) a.row.now) ≡ a.l.l2)
room c =
    let a = c.args in
    let r = field_room a.l.l1 a.l.l2 a.b c.requires.1.0 in
    (r, omega (arith, length-between a.row.now (a.b * a.l.l2) (a.b * a.l.l2 + a.l.l2) (omega arith)))

-- a chunk of a turn, and its bits
taken : (c : In-loop-j) →
    let a = c.args in
    let j = c.loop-j.j in
    (j < a.l.l2) × (a.b * a.l.l2 + j < a.l.l1 * a.l.l2) × ((a.b * a.l.l2 + j) * a.l.nc + a.l.nc ≤ row_bits a.l)
taken c =
    let a = c.args in
    let j : ℕ = c.loop-j.j in
    let r = room (goal.at.In-loop-j c).At-loop-j in
    let h : j < a.l.l2 = omega (arith, r.1, c.loop-j-test.true) in
    let i : a.b * a.l.l2 + j < a.l.l1 * a.l.l2 = omega (arith, r.0) in
    (h, i, field_room (a.l.l1 * a.l.l2) a.l.nc (a.b * a.l.l2 + j) i)

pub overflow_mul-from-in-loop-j : goal.overflow_mul-from-in-loop-j
overflow_mul-from-in-loop-j c =
    let l = c.args.l in
    omega (arith, (taken (goal.at.overflow_mul-from-in-loop-j c).In-loop-j).2, (sizes l (legal_bounds l c.requires.0)).row)

pub number_in-held-requires : goal.number_in-held-requires
number_in-held-requires c =
    let b = legal_bounds c.args.l c.requires.0 in
    let row = (sizes c.args.l b).row in
    let t = taken (goal.at.number_in-held-requires c).In-loop-j in
    (b.nc_high, (omega (arith, c.requires.1.1.1), omega (arith, t.2, c.requires.1.1.1)))

-- the row `last` has all bits
long : (c : At-loop-j) → row_bits c.args.l ≤ length (unpack c.args.last.now)
long c = omega (arith, length-unpack c.args.last.now, c.requires.1.1.1)

-- the chunk in hand
own : (c : After-cmp) → c.from.result ≡ get_or c.args.row.now (c.args.b * c.args.l.l2 + c.loop-j.j) 0
own c =
    let a = c.args in
    let t = taken (goal.at.After-cmp c).In-loop-j in
    c.from.ensures ∙ get_or-between a.row.now (a.b * a.l.l2) (a.b * a.l.l2 + a.l.l2) c.loop-j.j 0 (omega (arith, t.0))

pub returns-in_default : goal.returns-in_default
returns-in_default c =
    let l = c.args.l in
    let last = c.args.last.now in
    let at = goal.at.returns-in_default c in
    let t = taken at.In-loop-j in
    λ x r h. compared_unlike c.from.result c.number_in-held.result c.cmp.ensures c.in_default.not-Equal
    (λ i k. chunk-after l (unpack last) x (bits-unpack last) r (long at.At-loop-j) (c.args.b * l.l2 + c.loop-j.j) c.from.result t.1
    (h c.loop-j.j t.0 ∙ sym (own at.After-cmp)) (omega (arith, c.number_in-held.ensures)) (c.loop-j.invariant x r h k))

pub loop-j-preserved : goal.loop-j-preserved
loop-j-preserved c =
    let l = c.args.l in
    let last = c.args.last.now in
    let at = goal.at.loop-j-preserved c in
    let t = taken at.In-loop-j in
    let place : ℕ = c.args.b * l.l2 + c.loop-j.j in
    let same : c.from.result ≡ c.number_in-held.result = ranked _ _ _ c.in-Equal.ensures in
    let next : c.args.b * l.l2 + (c.loop-j.j + 1) ≡ place + 1 = omega arith in
    λ x r h k.
    rw next (chunk-same l (unpack last) x (bits-unpack last) r (long at.At-loop-j) place c.from.result t.1
    (h c.loop-j.j t.0 ∙ sym (own at.After-cmp)) (same ∙ c.number_in-held.ensures) (c.loop-j.invariant x r h k))

pub returns : goal.returns
returns c =
    let a = c.args in
    let all : c.loop-j.j ≡ a.l.l2 = omega (arith, (room (goal.at.returns c).At-loop-j).1, c.loop-j-test.false) in
    let e : (a.b * a.l.l2 + c.loop-j.j) * a.l.nc ≡ a.b * block_bits a.l + block_bits a.l =
    ap (λ (n : ℕ). (a.b * a.l.l2 + n) * a.l.nc) all
    ∙ omega (arith, add-mul (a.b * a.l.l2) a.l.l2 a.l.nc, mul_assoc a.b a.l.l2 a.l.nc)
    in
    λ x r h. compared_same (λ k. rw e at (c.loop-j.invariant x r h k))
