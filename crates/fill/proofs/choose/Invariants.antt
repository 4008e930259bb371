-- The loop's invariant: the best cell so far is open, and where there is none no cell passed is.
use Rattle.std.proofs.Common.{◌≡◌, ℕ, ◌<◌, ◌≤◌, get_or, MatchOption}
use Rattle.fill.proofs.choose.Given as goal

abbrev pub invariant-loop-z : goal.invariant-loop-z
invariant-loop-z l = record {
  least : l.least ≤ 512;
  best : MatchOption l.best ((l.least ≡ 512) × ((k : ℕ) → k < l.z → get_or l.cells.lost k 0 ≡ 0))
      (λ z. (z < 12) × (0 < get_or l.cells.lost z 0));
}
