-- What the tactics leave open of `vt::find_place`.
use Rattle.std.proofs.Common.{◌≡◌, ◌+◌, ◌-◌, ℕ, List, length, get_or, drop, mul-zero, mul-one, arith}
use Rattle.bits.proofs.Laws.{bit_at}
use Rattle.vt.specs.Ones.{ones}
use Rattle.vt.proofs.Totals.{ones-length, ones-next, ones-end, reach-next, reach-end}
use Rattle.vt.proofs.find_place.Goals as goal

pub loop-j-init : goal.loop-j-init
loop-j-init c =
    let x : List ℕ = c.args.bits.now in
    let z : c.args.before + 0 + 1 ≡ c.args.before + 1 = omega arith in
    record { few = omega (arith, ones-length x c.requires.0.0.0); left = c.requires.1.0; reach = rw z c.requires.1.1.1 }

pub overflow_sub-r : goal.overflow_sub-r
overflow_sub-r c = omega (arith, ones-next c.args.bits.now c.loop-j.j (omega arith))

pub loop-j-preserved : goal.loop-j-preserved
loop-j-preserved c =
    let x : List ℕ = c.args.bits.now in
    let p = c.loop-j in
    let a = c.args in
    let i : ℕ = a.before + p.j + 1 in
    let b : ℕ = get_or x p.j 0 in
    let read : c.from-r.result ≡ b = c.from-r.ensures in
    let n : p.r ≡ b + ones (drop (p.j + 1) x) + a.behind = omega (arith, ones-next x p.j (omega arith)) in
    let far = reach-next i (a.before + (p.j + 1) + 1) a.t b p.r (p.r - b) (a.before + length x + 1 + a.behind)
    (bit_at x c.requires.0.0.0 p.j) (omega arith) (omega arith) c.if-t-r.false
    c.if-t-before.false p.invariant.reach in
    rw read (record { few = omega arith; left = omega arith; reach = far })

pub returns-then-t-behind : goal.returns-then-t-behind
returns-then-t-behind c =
    let a = c.args in
    let n : ℕ = length a.bits.now in
    let e = ones-end a.bits.now n (omega arith) in
    ((omega arith, omega arith), omega (arith, mul-zero (a.before + n + 1), e))

pub returns-else-t-behind : goal.returns-else-t-behind
returns-else-t-behind c =
    let a = c.args in
    let p = c.loop-j in
    let n : ℕ = length a.bits.now in
    let j : p.j ≡ n = omega arith in
    let last : p.r ≡ a.behind = omega (arith, ones-end a.bits.now p.j (omega arith)) in
    let e = reach-end (a.before + p.j + 1) a.t p.r a.behind (a.before + n + 1 + a.behind)
    last c.requires.1.1.0 (omega arith) c.if-t-behind.false p.invariant.reach in
    ((omega arith, omega arith), omega (arith, mul-one (a.before + n + 1), ones-end a.bits.now n (omega arith), e))
