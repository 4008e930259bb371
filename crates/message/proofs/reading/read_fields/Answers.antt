use Rattle.std.proofs.Common.{List, ℕ, ◌≡◌, ◌∙◌, ap, length, get_or, drop, arith}
use Rattle.bits.specs.Bits.{number, unpack}
use Rattle.bits.proofs.Copy.{front_next}
use Rattle.message.specs.Read.{fields}
use Rattle.message.proofs.Fields.{front_whole, length_fields, field_value, field_room, field_step}
use Rattle.message.proofs.reading.read_fields.Goals as goal

pub take_long-field-requires : goal.take_long-field-requires
take_long-field-requires c =
    let a = c.args in
    let p = c.loop-v in (
      c.requires.0,
      (
        c.requires.1.0,
        omega (arith, p.invariant.at, field_room (length a.out.now) a.k p.v-index c.loop-v-test.true, c.requires.1.1),
      ),
    )

pub loop-v-preserved : goal.loop-v-preserved
loop-v-preserved c =
    let a = c.args in
    let p = c.loop-v in
    let n : ℕ = length a.out.now in
    let f : List ℕ = fields n a.k (drop a.at (unpack a.s.now)) in
    let v : c.take_long-field.result.value ≡ get_or f p.v-index 0 =
    c.take_long-field.ensures.0 ∙ ap (λ (m : ℕ). number a.k (drop m (unpack a.s.now))) p.invariant.at
    ∙ field_value n a.k a.at p.v-index (unpack a.s.now) c.loop-v-test.true in
    record {
      at = omega (arith, c.take_long-field.ensures.1, p.invariant.at, field_step a.at a.k p.v-index);
      written = rw (p.invariant.written, v)
          (front_next a.out.now f p.v-index c.loop-v-test.true
          (omega (arith, length_fields n a.k (drop a.at (unpack a.s.now)))));
    }

pub returns : goal.returns
returns c =
    let a = c.args in
    let p = c.loop-v in
    let n : ℕ = length a.out.now in
    let x : List ℕ = drop a.at (unpack a.s.now) in
    p.invariant.written ∙ front_whole a.out.now (fields n a.k x) p.v-index (omega arith) (length_fields n a.k x)
