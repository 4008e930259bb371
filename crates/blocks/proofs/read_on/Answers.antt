-- `blocks::read_on` meets its contract. Assumes nothing.
use Rattle.std.proofs.Common.{◌≡◌, ℕ, ◌+◌, ◌*◌, ◌<◌, ◌≤◌, ◌∙◌, length, get_or, set, arith, below_more, get_or-set_same, get_or-set_other}
use Rattle.bits.specs.Bits.{longest, most_chunks}
use Rattle.column.proofs.Rows.{chunk_stands}
use Rattle.message.proofs.Legal.{legal_bounds}
use Rattle.blocks.proofs.read_on.Goals as goal
use Rattle.blocks.proofs.read_on.Goals.{In-loop-c}

-- where the chunk of a turn stands
stands : (c : In-loop-c) → let a = c.args in
    (a.i * a.l.l2 + c.loop-c.c < most_chunks) × ((a.i * a.l.l2 + c.loop-c.c) * a.l.nc ≤ longest)
stands c = (chunk_stands c.args.l c.requires.0 c.args.i c.loop-c.c c.requires.1.1.1.0 c.loop-c-test.true).1

pub overflow_mul-first : goal.overflow_mul-first
overflow_mul-first c =
    let l = c.args.l in
    omega (arith, (chunk_stands l c.requires.0 c.args.i 0 c.requires.1.1.1.0 (legal_bounds l c.requires.0).l2_low).1.0)

pub overflow_add-at : goal.overflow_add-at
overflow_add-at c = omega (arith, (stands (goal.at.overflow_add-at c).In-loop-c).0)

pub overflow_mul-at : goal.overflow_mul-at
overflow_mul-at c = omega (arith, (stands (goal.at.overflow_mul-at c).In-loop-c).1)

pub overflow_add-place : goal.overflow_add-place
overflow_add-place c =
    omega (arith, (stands (goal.at.overflow_add-place c).In-loop-c).1, (legal_bounds c.args.l c.requires.0).nc_high)

pub number_at-requires : goal.number_at-requires
number_at-requires c = (c.requires.1.0, ((legal_bounds c.args.l c.requires.0).nc_high, c.if-y-place.false))

pub overflow_add-row : goal.overflow_add-row
overflow_add-row c = omega (arith, (stands (goal.at.overflow_add-row c).In-loop-c).0)

pub bounds-row-first : goal.bounds-row-first
bounds-row-first c = omega (arith, (stands (goal.at.bounds-row-first c).In-loop-c).0)

pub loop-c-preserved : goal.loop-c-preserved
loop-c-preserved c =
    let a = c.args in
    let p = c.loop-c in
    let at : ℕ = a.i * a.l.l2 + p.c in
    let v = c.number_at.result in
    let room : at < length p.row = omega (arith, (stands (goal.at.loop-c-preserved c).In-loop-c).0) in
    let same : (d : ℕ) → (d ≡ p.c → ⊥) → get_or (set p.row at v) (a.i * a.l.l2 + d) 0 ≡ get_or p.row (a.i * a.l.l2 + d) 0 =
    λ d n. get_or-set_other p.row at (a.i * a.l.l2 + d) v 0 (λ e. n (omega (arith, e)))
    in
    record {
      before = λ d h. same d (λ e. omega (arith, e, h)) ∙ p.invariant.before d h;
      read = below_more _ p.c
          (λ d h g. same d (λ e. omega (arith, e, h)) ∙ p.invariant.read d h g)
          (λ g. get_or-set_same p.row at v 0 room ∙ c.number_at.ensures);
    }
