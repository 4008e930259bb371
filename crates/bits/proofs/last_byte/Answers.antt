-- What the tactics leave open of `bits::last_byte`.
use Rattle.std.proofs.Common.{◌≡◌, ◌+◌, ◌-◌, ℕ, List, length, get_or, take, drop, sym, ◌∙◌, take_all, length-drop, get_or-drop, arith}
use Rattle.bits.proofs.Laws.{bit_at, number-next, number-end, pow_next}
use Rattle.bits.proofs.last_byte.Goals as goal

pub loop-j-preserved : goal.loop-j-preserved
loop-j-preserved c =
    let a = c.args in
    let p = c.loop-j in
    let x : List ℕ = a.bits.now in
    let rest : take (length x - a.at) (drop a.at x) ≡ drop a.at x =
    take_all (length x - a.at) (drop a.at x) (omega (arith, length-drop a.at x)) in
    let bit : c.byte_at.result ≡ get_or x (a.at + p.j) 0 =
    (rw rest at c.byte_at.ensures.0) ∙ get_or-drop a.at x p.j 0 in
    record {
      low = omega (arith, pow_next p.j, bit_at x c.requires.0 (a.at + p.j));
      same = rw bit (number-next p.v 8 a.at p.j x (omega arith)) ∙ p.invariant.same;
    }

pub overflow_cast-result : goal.overflow_cast-result
overflow_cast-result c =
    let e : c.loop-j.j ≡ 8 = omega arith in
    record { fits = rw e at c.loop-j.invariant.low }

pub returns : goal.returns
returns c =
    let p = c.loop-j in
    let a = c.args in
    sym (number-end p.v (8 - p.j) (drop (a.at + p.j) a.bits.now) (omega arith)) ∙ p.invariant.same
