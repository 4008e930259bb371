-- An open cell's chunk stands in the row, and its place is added unless it is there.
use Rattle.std.proofs.Common.{◌≡◌, ◌<◌, length, arith, rules}
use Rattle.field.proofs.Double.{size-high}
use Rattle.message.proofs.Legal.{legal_bounds}
use Rattle.cells.specs.Cells.{Open}
use Rattle.recover.proofs.Spots.{few-chunks, collected_same, collected_new}
use Rattle.recover.proofs.add_cell.Goals as goal

pub returns-then-a-eq0 : goal.returns-then-a-eq0
returns-then-a-eq0 c =
    let a = c.args in
    let long : length a.cells.lost ≡ 12 = search rules in
    collected_same a.l a.cells a.z a.e.n a.e.places (omega arith) (λ o. absurd (omega arith)) c.requires.1.1.1

-- as a row with checks has no more chunks than the field has places, the chunk is a byte
pub overflow_cast-c : goal.overflow_cast-c
overflow_cast-c c =
    let l = c.args.l in
    omega (
      arith,
      few-chunks l c.requires.0.0 c.requires.0.1,
      size-high l.nc (legal_bounds l c.requires.0.0).nc_high,
    )

pub returns-then-among : goal.returns-then-among
returns-then-among c =
    let a = c.args in
    let long : length a.cells.lost ≡ 12 = search rules in
    collected_same a.l a.cells a.z a.e.n a.e.places (omega arith)
    (λ o. rw c.chunk_of-c.ensures.0 at (c.among.ensures.0 c.if-among.true)) c.requires.1.1.1

pub returns : goal.returns
returns c =
    let a = c.args in
    let long : length a.cells.lost ≡ 12 = search rules in
    let size : length a.e.places ≡ 12 = search rules in
    let room : a.e.n < length a.e.places = omega (arith, c.requires.1.1.1.few) in
    let unfound : Open a.cells a.z = (omega arith, omega arith) in
    collected_new a.l a.cells a.z a.e.n c.chunk_of-c.result a.e.places (omega arith) unfound room
    c.chunk_of-c.ensures.0 c.chunk_of-c.ensures.1 (c.among.ensures.1 c.if-among.false) c.requires.1.1.1
