-- What the tactics leave open of `vt::weigh`.
use Rattle.std.proofs.Common.{◌≡◌, ◌+◌, ◌<◌, ◌≤◌, ℕ, List, length, get_or, arith}
use Rattle.bits.proofs.Laws.{bit_at}
use Rattle.vt.proofs.Totals.{times_bit, total-next, total-end, ones-next, ones-end}
use Rattle.vt.proofs.weigh.Goals as goal

pub loop-i-preserved : goal.loop-i-preserved
loop-i-preserved c =
    let x : List ℕ = c.args.bits.now in
    let p = c.loop-i in
    let h : p.i < length x = omega arith in
    let read : c.from-b.result ≡ get_or x p.i 0 = c.from-b.ensures in
    let low = bit_at x c.requires.0 p.i in
    let small = times_bit (p.i + 1) (get_or x p.i 0) low in
    rw read
    (record {
      total_few = omega (arith, small);
      ones_few = omega (arith, low);
      total_left = omega (arith, total-next x p.i h);
      ones_left = omega (arith, ones-next x p.i h);
    })

pub returns : goal.returns
returns c =
    let x : List ℕ = c.args.bits.now in
    let p = c.loop-i in
    let h : length x ≤ p.i = omega arith in
    (omega (arith, total-end (p.i + 1) x p.i h), omega (arith, ones-end x p.i h))
