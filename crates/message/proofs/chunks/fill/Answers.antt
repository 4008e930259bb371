use Rattle.std.proofs.Common.{List, ℕ, ◌≡◌, ◌∙◌, ◌^◌, ◌<◌, ◌≤◌, ap, sym, length, get_or, drop, arith}
use lib.Pow.{pow_mono}
use Rattle.bits.specs.Bits.{number, unpack}
use Rattle.bits.proofs.Copy.{front_next}
use Rattle.bits.proofs.Laws.{bits-drop, bits-unpack, number_lt}
use Rattle.message.specs.Read.{fields}
use Rattle.message.proofs.Fields.{front_whole, length_fields, fields_at}
use Rattle.message.proofs.chunks.fill.Goals as goal

pub overflow_cast-v : goal.overflow_cast-v
overflow_cast-v c =
    let a = c.args in
    let at : ℕ = c.loop-v.c.at in
    let low : number a.nc (drop at (unpack a.s.now)) < 2 ^ a.nc =
    number_lt a.nc (drop at (unpack a.s.now)) (bits-drop at (unpack a.s.now) (bits-unpack a.s.now)) in
    let top : 2 ^ a.nc ≤ 2 ^ 8 = pow_mono {i = a.nc} {j = 8} c.requires.0.0 in
    omega (arith, c.take-field.ensures.0)

pub loop-v-preserved : goal.loop-v-preserved
loop-v-preserved c =
    let a = c.args in
    let p = c.loop-v in
    let n : ℕ = length a.out.now in
    let f : List ℕ = fields n a.nc (unpack a.s.now) in
    let v : c.take-field.result.value ≡ get_or f p.v-index 0 =
    c.take-field.ensures.0 ∙ ap (λ (at : ℕ). number a.nc (drop at (unpack a.s.now))) p.invariant.at
    ∙ sym (fields_at n a.nc p.v-index (unpack a.s.now) c.loop-v-test.true) in
    record {
      at = omega (arith, c.take-field.ensures.1, p.invariant.at);
      written = rw (p.invariant.written, v)
          (front_next a.out.now f p.v-index c.loop-v-test.true (omega (arith, length_fields n a.nc (unpack a.s.now))));
    }

pub returns : goal.returns
returns c =
    let a = c.args in
    let p = c.loop-v in
    let n : ℕ = length a.out.now in
    p.invariant.written
    ∙ front_whole a.out.now (fields n a.nc (unpack a.s.now)) p.v-index (omega arith) (length_fields n a.nc (unpack a.s.now))
