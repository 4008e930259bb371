-- The loop's invariant: the heavy blocks among the first i are gathered, and end is the total of the first i counts.
use Rattle.std.proofs.Common.{◌≡◌, take}
use Rattle.consistent.specs.Greedy.{in_all}
use Rattle.search.specs.Patterns.{HeavyIn}
use Rattle.search.proofs.heavy_of.Given as goal

abbrev pub invariant-loop-i : goal.invariant-loop-i
invariant-loop-i l = record {
  total : l.end ≡ in_all (take l.i l.pattern.counts);
  heavy : HeavyIn l.pattern.counts l.i l.hs.heavy l.hs.left;
}
