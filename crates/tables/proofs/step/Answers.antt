-- Where a chunk is read is said by `place_of`; what becomes of it are laws of Sharing.antt.
use Rattle.std.proofs.Common.{◌≡◌, ◌+◌, ◌*◌, ◌<◌, ◌≤◌, length, get_or, refl, arith, rules, length-set}
use Rattle.tables.specs.Tables.{Sharable}
use Rattle.tables.proofs.Sharing.{inside, start-low, received-low, column-low, chunk-bits}
use Rattle.tables.proofs.Sharing.{shared_short, shared_read, shared_beyond, cell_room, shared_cell}
use Rattle.tables.proofs.Stepping.{halfway_start, halfway_next, halfway_end, stepped_none, too_few, share_failed}
use Rattle.tables.proofs.step.Goals as goal
use Rattle.tables.proofs.step.Goals.{After-from, then-a-eq0+else-y-place, else-a-eq0}

-- where it is known that a block has enough left, its share is one that can be asked for
sharable : (c : After-from) → let a = c.args in Sharable a.l a.y.now a.heavy a.j c.loop-h.h c.in_ok-a.a c.loop-h.table
sharable c = record {
  is_legal = c.requires.0;
  bits = c.requires.1.0;
  short = c.requires.1.1.0;
  sound = c.loop-h.invariant.half.sound;
  column = c.requires.1.1.1.1.0;
  some = c.loop-h-test.true;
  less = omega (arith, c.in_ok-a.ensures);
}

pub loop-h-init : goal.loop-h-init
loop-h-init c = record {
  left = search rules;
  cells = record { blocks = search rules; columns = search rules; losts = search rules; places = search rules };
  half = halfway_start c.requires.1.1.1.0;
}

pub returns-in_err-a : goal.returns-in_err-a
returns-in_err-a c =
    let half = c.loop-h.invariant.half in
    let few : get_or c.loop-h.table.left c.loop-h.h 0 < get_or c.args.next c.loop-h.h 0 = omega (arith, c.in_err-a.ensures) in
    rw c.from_residual.ensures
    (stepped_none refl refl c.requires.1.1.1.0 half.same (too_few half c.loop-h-test.true c.requires.1.1.1.1.0 few))

pub overflow_mul-c-in-loop-h : goal.overflow_mul-c-in-loop-h
overflow_mul-c-in-loop-h c =
    rw c.from.ensures (omega (arith, start-low (sharable (goal.at.overflow_mul-c-in-loop-h c).After-from)))

pub place_of-requires : goal.place_of-requires
place_of-requires c =
    let q = sharable (goal.at.place_of-requires c).After-from in
    rw c.from.ensures (start-low q, received-low q)

pub returns-in_err-place : goal.returns-in_err-place
returns-in_err-place c =
    let q = sharable (goal.at.returns-in_err-place c).After-from in
    let half = c.loop-h.invariant.half in
    let there = rw c.from.ensures at c.in_err-place.ensures.there in
    let beyond = shared_beyond q (length c.args.y.now + 1) (λ d e h g. cc (there d e h g)) (omega arith) in
    rw c.from_residual-in_err-place.ensures
    (stepped_none refl refl c.requires.1.1.1.0 half.same
    (share_failed half c.loop-h-test.true c.requires.1.1.1.1.0 (omega (arith, c.in_ok-a.ensures)) beyond refl))

pub overflow_add-place : goal.overflow_add-place
overflow_add-place c =
    let q = sharable (goal.at.overflow_add-place c).After-from in
    omega (arith, received-low q, chunk-bits q, c.in_ok-place.ensures.within)

pub returns-then-y-place : goal.returns-then-y-place
returns-then-y-place c =
    let q = sharable (goal.at.returns-then-y-place c).After-from in
    let half = c.loop-h.invariant.half in
    let there = rw c.from.ensures at c.in_ok-place.ensures.there in
    let short = shared_short q c.in_ok-place.place (λ d e h g. cc (there d e h g)) c.if-a-eq0.true c.if-y-place.true in
    stepped_none refl refl c.requires.1.1.1.0 half.same
    (share_failed half c.loop-h-test.true c.requires.1.1.1.1.0 (omega (arith, c.in_ok-a.ensures)) short refl)

pub number_at-requires : goal.number_at-requires
number_at-requires c =
    (c.requires.1.0, (chunk-bits (sharable (goal.at.number_at-requires c).After-from), c.if-y-place.false))

pub bounds-row-c : goal.bounds-row-c
bounds-row-c c =
    rw c.from.ensures
    (omega (arith, inside (sharable (goal.at.bounds-row-c c).After-from), c.requires.1.1.1.1.1, c.loop-h.auto.row))

pub overflow_cast-j : goal.overflow_cast-j
overflow_cast-j c = omega (arith, column-low (sharable (goal.at.overflow_cast-j c).After-from))

pub push_cell-table-requires : goal.push_cell-table-requires
push_cell-table-requires c =
    let blocks : length c.args.heavy.block ≡ 6 = search rules in
    cell_room (sharable (goal.at.push_cell-table-requires c).After-from) (omega (arith, c.if-a-eq0.false))
    c.loop-h.invariant.left blocks

pub loop-h-preserved : goal.loop-h-preserved
loop-h-preserved c =
    let a = c.args in
    let o = c.loop-h in
    let i = o.invariant in
    let q = sharable (goal.at.loop-h-preserved c).After-from in
    let column = c.requires.1.1.1.1.0 in
    let less : get_or a.next o.h 0 + c.in_ok-a.a ≡ get_or o.table.left o.h 0 = omega (arith, c.in_ok-a.ensures) in
    let there = rw c.from.ensures at c.in_ok-place.ensures.there in
    elim c.if-a-eq0.branch [
      | then-a-eq0+else-y-place w ↦
          let room : a.l.l1 * a.l.l2 ≤ length o.row = omega (arith, c.requires.1.1.1.1.1, o.auto.row) in
          rw (w.table-is, w.row-is, c.from.ensures, w.number_at.ensures) record {
            left = i.left;
            cells = i.cells;
            half = halfway_next i.half c.loop-h-test.true column less
                (shared_read q c.in_ok-place.place (λ d e h g. cc (there d e h g)) w.if-a-eq0.true room) refl;
          }
      | else-a-eq0 w ↦
          let k = o.table.cells in
          let pos : 0 < c.in_ok-a.a = omega (arith, w.if-a-eq0.false) in
          let blocks : length a.heavy.block ≡ 6 = search rules in
          rw (w.table-is, w.row-is, w.push_cell-table.ensures) record {
            left = simp length-set i.left;
            cells = record {
              blocks = simp length-set i.cells.blocks;
              columns = simp length-set i.cells.columns;
              losts = simp length-set i.cells.losts;
              places = simp length-set i.cells.places;
            };
            half = halfway_next i.half c.loop-h-test.true column less
                (shared_cell q c.in_ok-place.place (λ d e h g. cc (there d e h g)) pos i.left blocks i.cells
                c.in_ok-place.ensures.within) refl;
          }
    ]

pub returns : goal.returns
returns c = halfway_end c.loop-h.invariant.half refl (omega (arith, c.loop-h-test.false))
