use Rattle.std.proofs.Common.{List, ℕ, ◌≡◌, ◌∙◌, ◌*◌, refl, sym, get_or, take, take_all, arith}
use Rattle.bits.proofs.Copy.{front_next}
use Rattle.message.specs.Read.{fields}
use Rattle.message.proofs.Cutting.{chunk-numbers}
use Rattle.message.proofs.Fields.{fields_at, length_fields, field_room}
use Rattle.message.proofs.Legal.{legal_bounds}
use Rattle.message.proofs.chunks.fill_chunks.Goals as goal

pub number_at-requires : goal.number_at-requires
number_at-requires c =
    let l = c.args.l in
    let y = l.layout in
    (c.requires.0, ((legal_bounds y l.is_legal).nc_high, omega (arith, field_room (y.l1 * y.l2) y.nc c.loop-i.i c.loop-i-test.true, c.requires.1.0)))

pub loop-i-preserved : goal.loop-i-preserved
loop-i-preserved c =
    let a = c.args in
    let p = c.loop-i in
    let n : ℕ = a.l.layout.l1 * a.l.layout.l2 in
    let f : List ℕ = fields n a.l.layout.nc a.row.now in
    let v : c.number_at.result ≡ get_or f p.i 0 =
    c.number_at.ensures ∙ sym (fields_at n a.l.layout.nc p.i a.row.now c.loop-i-test.true) in
    rw (p.invariant, v) (front_next a.out.now f p.i (omega arith) (omega (arith, length_fields n a.l.layout.nc a.row.now)))

pub returns : goal.returns
returns c =
    let a = c.args in
    let y = a.l.layout in
    let p = c.loop-i in
    let f : List ℕ = fields (y.l1 * y.l2) y.nc a.row.now in
    let e : p.i ≡ y.l1 * y.l2 = omega arith in
    let whole : take p.i f ≡ f = take_all p.i f (omega (arith, length_fields (y.l1 * y.l2) y.nc a.row.now)) in
    p.invariant ∙ rw (whole, e, chunk-numbers y a.row.now) refl
