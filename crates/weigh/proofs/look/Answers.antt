-- `weigh::look` meets its contract: what the tables give for the window, and every number on the way fits.
-- Assumes nothing.
use Rattle.std.proofs.Common.{◌+◌, ◌≤◌, get_or, arith}
use Rattle.std.proofs.Math.Nat.{mul-le-mul}
use Rattle.bits.specs.Bits.{longest}
use Rattle.weigh.proofs.Windows.{Looked, looked}
use Rattle.weigh.proofs.look.Goals as goal
use Rattle.weigh.proofs.look.Goals.{Start}

-- what the tables give
gives : (s : Start) → let a = s.args in
    Looked a.y.now a.p a.w (get_or a.totals.now a.p 0) (get_or a.totals.now (a.p + a.w) 0)
    (get_or a.counts.now a.p 0) (get_or a.counts.now (a.p + a.w) 0)
gives s =
    let a = s.args in
    looked a.y.now a.p a.w a.totals.now a.counts.now s.requires.0 s.requires.1.1.1 s.requires.1.1.0

pub overflow_sub-counts : goal.overflow_sub-counts
overflow_sub-counts c = (gives (goal.at.overflow_sub-counts c).Start).counts_rise

pub overflow_sub-high : goal.overflow_sub-high
overflow_sub-high c = (gives (goal.at.overflow_sub-high c).Start).totals_rise

pub overflow_mul-result : goal.overflow_mul-result
overflow_mul-result c =
    let p : c.args.p ≤ longest = omega arith in
    let w : c.args.w ≤ longest = omega arith in
    rw c.from-ones.ensures (omega (arith, (gives (goal.at.overflow_mul-result c).Start).product, mul-le-mul p w))

pub overflow_sub-result : goal.overflow_sub-result
overflow_sub-result c = rw c.from-ones.ensures (gives (goal.at.overflow_sub-result c).Start).below

pub returns : goal.returns
returns c =
    let g = gives (goal.at.returns c).Start in
    rw c.from-ones.ensures
    record {
      count = g.count;
      positions = g.positions;
      count_small = g.count_small;
      positions-small = g.positions-small;
    }
