-- What the tactics leave open of `rows::insert`. Each way out is one law of Written.antt: the row is held already, there
-- is room, the last row is pushed out, or the row comes after the last of a full list. In all but the first
-- the row at the place found, if there is one, is not x.
use Rattle.std.proofs.Common.{ℕ, ◌≤◌, length, arith}
use Rattle.rows.proofs.Slice.{rows_le, row_fits, place-count}
use Rattle.rows.proofs.Written.{Absent, present, absent_other, absent_end, written_repeat, written-room, written-full, written_after}
use Rattle.rows.proofs.insert.Goals as goal
use Rattle.rows.proofs.insert.Goals.{else-at-count-via-then-at-count+else-eq, else-at-count-via-else-at-count}

pub returns-then-eq : goal.returns-then-eq
returns-then-eq c =
    let a = c.args in
    let p : ℕ = c.place-at.result in
    let e = present a.list.now a.kept.count a.x.now p c.compare.result c.if-at-count.true c.compare.ensures c.if-eq.ensures in
    written_repeat a.list.now a.kept.count a.kept.more a.cap a.x.now c.requires.1.1.0
    p c.place-at.ensures c.requires.1.1.1 c.if-at-count.true e

pub overflow_mul-at-then-count-cap : goal.overflow_mul-at-then-count-cap
overflow_mul-at-then-count-cap c =
    let a = c.args in
    let inside : c.place-at.result ≤ a.cap = omega (arith, c.place-at.ensures, place-count a.list.now a.kept.count a.x.now) in
    record { fits = omega (arith, rows_le c.place-at.result a.cap (length a.x.now) inside) }

pub put_row-requires : goal.put_row-requires
put_row-requires c =
    let a = c.args in
    let w : ℕ = length a.x.now in
    let before : c.place-at.result ≤ a.kept.count =
    omega (arith, c.place-at.ensures, place-count a.list.now a.kept.count a.x.now) in
    (rows_le c.place-at.result a.kept.count w before, (omega (arith, row_fits a.kept.count a.cap w (omega arith)), c.requires.0))

pub returns-then-count-cap : goal.returns-then-count-cap
returns-then-count-cap c =
    let a = c.args in
    let p : ℕ = c.place-at.result in
    let absent : Absent a.list.now a.kept.count a.x.now p = elim c.else-at-count.branch [
      | else-at-count-via-then-at-count+else-eq w ↦
          absent_other a.list.now a.kept.count a.x.now p w.compare.result w.if-at-count.true w.compare.ensures w.if-eq.ensures
      | else-at-count-via-else-at-count w ↦ absent_end a.list.now a.kept.count a.x.now p w.if-at-count.false
    ] in
    written-room a.list.now a.kept.count a.kept.more a.cap a.x.now c.requires.1.1.0
    p c.place-at.ensures absent c.put_row.new.list
    (omega arith) c.put_row.ensures

pub returns-then-at-cap : goal.returns-then-at-cap
returns-then-at-cap c =
    let a = c.args in
    let p : ℕ = c.place-at.result in
    let absent : Absent a.list.now a.kept.count a.x.now p = elim c.else-at-count.branch [
      | else-at-count-via-then-at-count+else-eq w ↦
          absent_other a.list.now a.kept.count a.x.now p w.compare.result w.if-at-count.true w.compare.ensures w.if-eq.ensures
      | else-at-count-via-else-at-count w ↦ absent_end a.list.now a.kept.count a.x.now p w.if-at-count.false
    ] in
    written-full a.list.now a.kept.count a.kept.more a.cap a.x.now c.requires.1.1.0
    p c.place-at.ensures absent
    c.put_row-then-at-cap.new.list (omega arith) (omega arith) c.put_row-then-at-cap.ensures

pub returns-else-at-cap : goal.returns-else-at-cap
returns-else-at-cap c =
    let a = c.args in
    let p : ℕ = c.place-at.result in
    let absent : Absent a.list.now a.kept.count a.x.now p = elim c.else-at-count.branch [
      | else-at-count-via-then-at-count+else-eq w ↦
          absent_other a.list.now a.kept.count a.x.now p w.compare.result w.if-at-count.true w.compare.ensures w.if-eq.ensures
      | else-at-count-via-else-at-count w ↦ absent_end a.list.now a.kept.count a.x.now p w.if-at-count.false
    ] in
    written_after a.list.now a.kept.count a.kept.more a.cap a.x.now c.requires.1.1.0
    p c.place-at.ensures absent (omega arith) (omega arith)
