-- What is seen in the window, further on by the positions before it.
use Rattle.std.proofs.Common.{ℕ, ◌*◌, take, drop, ap, arith}
use Rattle.std.proofs.Math.Nat.{mul-le-mul_left}
use Rattle.windows.proofs.Windows.{total_on}
use Rattle.whole.proofs.weight.Goals as goal

pub returns : goal.returns
returns c =
    let a = c.args in
    let seen = c.look-seen.ensures in (
      omega (
        arith,
        seen.positions,
        ap (λ (n : ℕ). a.before * n) seen.count,
        total_on a.before (take a.w (drop a.p a.y.now)),
      ),
      omega (arith, seen.positions-small, mul-le-mul_left a.before seen.count_small),
    )
