-- The loop's invariant: a content that loses no bit has the bits passed behind v, and goes on without a loss behind them.
use Rattle.std.proofs.Common.{ℕ, ◌+◌, ◌-◌, ◌*◌, ◌^◌, ◌≤◌, drop}
use Rattle.contents.specs.Contents.{Ends}
use Rattle.contents.proofs.follow.Given as goal

abbrev pub invariant-loop-b : goal.invariant-loop-b
invariant-loop-b l = record {
  byte : (l.whole + 1) * 2 ^ (l.left - l.b-index) ≤ 256;
  goes_on : (w : ℕ) → Ends l.left l.v 0 (drop l.p l.y) w
      → Ends (l.left - l.b-index) l.whole 0 (drop (l.p + l.b-index) l.y) w;
}
