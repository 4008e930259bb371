-- What the tactics leave open of `vt::weigh_bytes`.
use Rattle.std.proofs.Common.{◌*◌, ◌+◌, ◌<◌, ◌≤◌, ℕ, List, length, mul-le-mul, arith}
use Rattle.bits.specs.Bits.{unpack, longest}
use Rattle.bits.proofs.Laws.{length-unpack}
use Rattle.vt.proofs.Totals.{total-end, ones-end}
use Rattle.vt.proofs.Weighing.{ones-byte, total-byte}
use Rattle.vt.proofs.weigh_bytes.Goals as goal

pub loop-i-preserved : goal.loop-i-preserved
loop-i-preserved c =
    let p = c.loop-i in
    let s : List ℕ = c.args.s.now in
    let h : p.i < length s = omega arith in
    let small : p.i * 8 * c.of-w.result.ones ≤ longest * 8 =
    mul-le-mul {n₂ = longest} {m₂ = 8} (omega arith) (omega arith) in
    let o = c.of-w.ensures.1.0 in
    let t = c.of-w.ensures.0.0 in
    record {
      total_few = omega (arith, small);
      ones_few = omega arith;
      total_left = omega (arith, rw (← o, ← t) at (total-byte s p.i h));
      ones_left = omega (arith, ones-byte s p.i h);
    }

pub returns : goal.returns
returns c =
    let s : List ℕ = c.args.s.now in
    let p = c.loop-i in
    let h : length (unpack s) ≤ p.i * 8 = omega (arith, length-unpack s) in
    (omega (arith, total-end (1 + p.i * 8) (unpack s) (p.i * 8) h), omega (arith, ones-end (unpack s) (p.i * 8) h))
