-- The loop's invariant: the first b blocks are counted, and the count is below the least difference of two consistent
-- rows.
use Rattle.std.proofs.Common.{◌≡◌, ◌<◌, take}
use Rattle.consistent.specs.Greedy.{in_all}
use Rattle.consistent.specs.Query.{query}
use Rattle.anchor.proofs.Anchor.{Counted}
use Rattle.anchor.proofs.near_anchor.Given as goal

abbrev pub invariant-loop-b : goal.invariant-loop-b
invariant-loop-b l = record {
  lost : l.d ≡ in_all (take l.b l.counts);
  small : l.most < l.least;
  counted : Counted (query l.l l.numbers l.y) l.desk l.counts l.row l.i l.b l.most;
}
