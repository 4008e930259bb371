-- What `costs::makes_up` keeps in its loop: no residue but `part` goes with the number, and no residue of the set with one
-- that is passed.
use Rattle.std.proofs.Common.{ℕ, ◌<◌, ◌≤◌}
use Rattle.costs.proofs.Parts.{Only, Never}
use Rattle.costs.proofs.makes_up.Given as goal

abbrev pub invariant-loop : goal.invariant-loop
invariant-loop l = record {
  low : l.part < l.m;
  only : Only l.m l.sum l.counter l.part;
  never : (k : ℕ) → k < l.counter → l.low ≤ k → Never l.m l.sum l.set k;
}
