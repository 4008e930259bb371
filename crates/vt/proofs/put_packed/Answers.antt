-- What the tactics leave open of `vt::put_packed`.
use Rattle.std.proofs.Common.{◌≡◌, ◌<◌, ◌≤◌, ◌/◌, ◌++◌, ℕ, List, length, take, drop, ap, ◌∙◌, arith}
use Rattle.std.proofs.Math.Seq.{length-take-le}
use Rattle.bits.specs.Bits.{AllBytes}
use Rattle.bits.proofs.Packing.{bytes_of_each}
use Rattle.bits.proofs.Spans.{put-bytes}
use Rattle.vt.proofs.Copies.{bit_front, bit_back}
use Rattle.vt.proofs.put_packed.Goals as goal

pub returns : goal.returns
returns c =
    let a = c.args in
    let r = c.requires.1 in
    let s : List ℕ = a.s.now in
    let b : AllBytes s = bytes_of_each s (λ j. omega (arith, c.type_inv.s j)) in
    let f : ℕ = a.at / 8 in
    let h : f ≤ length s = omega arith in
    let l : f < length a.out.now = omega arith in
    let p : List ℕ = c.loop-i.out in
    let end : c.loop-i.i ≡ f = omega (arith, length-take-le f s h) in
    let half : p ≡ take f s ++ drop f a.out.now =
    c.loop-i.invariant ∙ ap (λ (i : ℕ). take i s ++ drop i a.out.now) end in
    c.move_on.ensures
    ∙ rw (
      bit_front s a.out.now f c.with_bit.result h l p half,
      bit_back s a.out.now f c.with_bit.result a.count h l p half r.0.0,
    )
    (ap (λ (z : List ℕ). z ++ drop a.count a.out.now)
    (put-bytes s b a.at a.bit a.count c.requires.0.0 r.0.0 c.with_bit.result
    (rw c.byte_at.ensures.0 at c.with_bit.ensures)))
