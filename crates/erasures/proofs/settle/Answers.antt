use Rattle.std.proofs.Common.{ℕ, ◌<◌, length, get_or, ap, ap₂, sym, ◌∙◌, arith}
use Rattle.std.proofs.Math.ListN.{length-set}
use Rattle.std.specs.Int.Bits.{bit_xor, xor_lt}
use Rattle.field.specs.Field.{Element, power, times}
use Rattle.erasures.proofs.Erasures.{set-each, divisor, settled_next, settled_end}
use Rattle.erasures.proofs.settle.Goals as goal

pub divide-v-requires : goal.divide-v-requires
divide-v-requires c =
    let a = c.args in
    let p = c.requires in
    let z = c.loop-z.z in
    let other = c.entry-other.ensures ∙ ap (power a.nc) c.from-in-loop-z.ensures in
    let own = c.entry-own.ensures ∙ ap (power a.nc) c.from.ensures in
    let d =
    divisor a.nc p.0.1 p.0.2 a.n (λ w. get_or a.cs w 0) p.1.2 z a.u c.loop-z-test.true (omega arith) p.1.0
    c.entry-other.result c.entry-own.result other own in
    (p.0, (p.1.4 z, d.0, d.1))

pub loop-z-preserved : goal.loop-z-preserved
loop-z-preserved c =
    let a = c.args in
    let p = c.requires in
    let o = c.loop-z in
    let i = o.invariant in
    let v = c.divide-v.result in
    let new = c.divide-v.ensures.0 in
    let other = c.entry-other.ensures ∙ ap (power a.nc) c.from-in-loop-z.ensures in
    let own = c.entry-own.ensures ∙ ap (power a.nc) c.from.ensures in
    let low : o.z < length o.out = omega arith in
    record {
      long = length-set o.out o.z v ∙ i.long;
      elements = set-each (λ (k x : ℕ). Element a.nc x) o.out o.z v low (λ k n. i.elements k) new;
      element = xor_lt a.nc o.sum v i.element new;
      settled = settled_next a.nc p.0.1 p.0.2 (λ w. get_or a.cs w 0) a.n a.u a.first a.rest o.out o.sum o.z v
          (omega arith) c.loop-z-test.true low
          (λ x hx h. c.divide-v.ensures.1 x hx
          (h ∙ ap (λ (d : ℕ). times a.nc d x) (ap₂ bit_xor (sym other) (sym own))))
          i.settled;
    }

pub returns : goal.returns
returns c =
    let a = c.args in
    let p = c.requires in
    let o = c.loop-z in
    let i = o.invariant in
    let low : a.u < length o.out = omega arith in (
      set-each (λ (k x : ℕ). Element a.nc x) o.out a.u o.sum low (λ k n. i.elements k) i.element,
      settled_end a.nc p.0.1 p.0.2 (λ w. get_or a.cs w 0) a.n a.u a.first a.rest o.out o.sum o.z c.loop-z-test.false
          p.1.0 low i.settled,
    )
