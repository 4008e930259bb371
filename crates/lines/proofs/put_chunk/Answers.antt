use Rattle.std.proofs.Common.{ℕ, List, ◌++◌, ◌≡◌, ◌+◌, ◌-◌, ◌/◌, ◌%◌, ◌^◌, ◌<◌, length, get_or, take, drop, sym, ap₂, ◌∙◌, arith}
use Rattle.std.proofs.Math.Seq.{take_all}
use Rattle.bits.specs.Bits.{digits}
use Rattle.bits.proofs.Copy.{paste_next}
use Rattle.bits.proofs.Laws.{digits-at, length_digits}
use Rattle.lines.proofs.put_chunk.Goals as goal

pub loop-i-preserved : goal.loop-i-preserved
loop-i-preserved c =
    let a = c.args in
    let i = c.loop-i.i in
    let d = digits a.nc a.v in
    let shift : a.nc - 1 - i ≡ a.nc - (i + 1) = omega arith in
    let bit : a.v / 2 ^ (a.nc - 1 - i) % 2 ≡ get_or d i 0 = rw shift (sym (digits-at a.nc a.v i (omega arith))) in
    let n : i < length d = omega (arith, length_digits a.nc a.v) in
    rw (c.loop-i.invariant, bit) (paste_next a.out.now a.at d i (omega arith) n)

pub returns : goal.returns
returns c =
    let a = c.args in
    let i = c.loop-i.i in
    let d = digits a.nc a.v in
    let e : i ≡ a.nc = omega arith in
    let whole : take i d ≡ d = take_all i d (omega (arith, length_digits a.nc a.v)) in
    c.loop-i.invariant ∙ ap₂ (λ (u : List ℕ) (n : ℕ). take a.at a.out.now ++ u ++ drop (a.at + n) a.out.now) whole e
