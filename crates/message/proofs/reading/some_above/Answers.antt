use Rattle.std.proofs.Common.{List, ℕ, ◌≡◌, ◌∙◌, ap, sym, get_or, drop, arith}
use Rattle.bits.specs.Bits.{number, unpack}
use Rattle.message.specs.Read.{fields}
use Rattle.message.proofs.Fields.{length_fields, field_value, field_room, field_step, above-next, above_stop, above-end}
use Rattle.message.proofs.reading.some_above.Goals as goal
use Rattle.message.proofs.reading.some_above.Goals.{After-take_long-field}

-- the value that the cursor reads is the next field
value-is : (c : After-take_long-field) → let a = c.args in
    c.take_long-field.result.value ≡ get_or (fields a.n a.k (drop a.at (unpack a.s.now))) c.loop.counter 0
value-is c =
    let a = c.args in
    let p = c.loop in
    c.take_long-field.ensures.0 ∙ ap (λ (m : ℕ). number a.k (drop m (unpack a.s.now))) p.invariant.at
    ∙ field_value a.n a.k a.at p.counter (unpack a.s.now) c.loop-test.true

pub take_long-field-requires : goal.take_long-field-requires
take_long-field-requires c =
    let a = c.args in
    let p = c.loop in
    (c.requires.0, (c.requires.1.0, omega (arith, p.invariant.at, field_room a.n a.k p.counter c.loop-test.true, c.requires.1.1)))

pub returns-then-limit-from : goal.returns-then-limit-from
returns-then-limit-from c =
    let a = c.args in
    let p = c.loop in
    let f : List ℕ = fields a.n a.k (drop a.at (unpack a.s.now)) in
    let v = value-is (goal.at.returns-then-limit-from c).After-take_long-field in
    sym (sym p.invariant.left
    ∙ above_stop a.limit f p.counter (omega (arith, length_fields a.n a.k (drop a.at (unpack a.s.now))))
    (omega (arith, c.if-limit-from.true, c.from.ensures, v)))

pub loop-preserved : goal.loop-preserved
loop-preserved c =
    let a = c.args in
    let p = c.loop in
    let f : List ℕ = fields a.n a.k (drop a.at (unpack a.s.now)) in
    let v = value-is (goal.at.loop-preserved c).After-take_long-field in
    record {
      at = omega (arith, c.take_long-field.ensures.1, p.invariant.at, field_step a.at a.k p.counter);
      left = above-next a.limit f p.counter (omega (arith, length_fields a.n a.k (drop a.at (unpack a.s.now))))
          (omega (arith, c.if-limit-from.false, c.from.ensures, v))
          ∙ p.invariant.left;
    }

pub returns : goal.returns
returns c =
    let a = c.args in
    let p = c.loop in
    let x : List ℕ = drop a.at (unpack a.s.now) in
    sym (sym p.invariant.left
    ∙ above-end a.limit (fields a.n a.k x) p.counter (omega (arith, length_fields a.n a.k x)))
