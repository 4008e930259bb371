-- What the tactics leave open of `bits::Filler::put`.
use Rattle.std.proofs.Common.{◌+◌, ◌*◌, ◌%◌, ◌<◌, ◌++◌, ℕ, List, length, take, drop, sym, ap, ◌∙◌, arith, append_assoc, drop-drop, drop-set-lt, mod-lt, pow_pos}
use Rattle.bits.specs.Bits.{digits, unpack}
use Rattle.bits.proofs.Filling.{digits_low, digits_join, byte_out}
use Rattle.bits.proofs.Laws.{length_digits}
use Rattle.bits.proofs.Filler.put.Goals as goal

pub loop-count-preserved : goal.loop-count-preserved
loop-count-preserved c =
    let a = c.args in
    let p = c.loop-count in
    let all : ℕ = a.self.held * c.power-size.result + a.v % c.power-size.result in
    let inside : p.at < length p.out = omega arith in
    record {
      place = omega arith;
      few = omega arith;
      taken = byte_out p.out p.at p.count all inside c.loop-count-test.true ∙ p.invariant.taken;
      rest = drop-set-lt (p.at + 1) p.out p.at _ (omega arith) ∙ sym (drop-drop 1 p.at p.out) ∙ ap (drop 1) p.invariant.rest
          ∙ drop-drop 1 p.at a.out.now;
    }

pub returns : goal.returns
returns c =
    let a = c.args in
    let p = c.loop-count in
    let all : ℕ = a.self.held * c.power-size.result + a.v % c.power-size.result in
    let kept = ap (λ (m : ℕ). digits p.count (all % m)) c.power.ensures ∙ digits_low p.count all in
    let joined =
    ap (λ (m : ℕ). digits (a.self.count + a.k) (a.self.held * m + a.v % m)) c.power-size.ensures
    ∙ digits_join a.self.count a.self.held a.k a.v in
    let low : all % c.power.result < c.power.result =
    mod-lt all (omega (arith, c.power.ensures, pow_pos p.count)) in
    record {
      ready = (omega arith, omega (arith, c.power.ensures));
      place = omega (arith, length_digits a.k a.v);
      taken = ap (λ (x : List ℕ). unpack (take p.at p.out) ++ x) kept ∙ p.invariant.taken
          ∙ ap (λ (x : List ℕ). unpack (take a.self.at a.out.now) ++ x) joined
          ∙ sym (append_assoc (unpack (take a.self.at a.out.now)) (digits a.self.count a.self.held)
          (digits a.k a.v));
      rest = p.invariant.rest;
      long = omega arith;
    }
