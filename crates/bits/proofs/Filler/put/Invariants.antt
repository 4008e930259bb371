-- The loop's invariant: the whole bytes and the digits that are left are all bits.
use Rattle.std.proofs.Common.{◌≡◌, ◌+◌, ◌*◌, ◌≤◌, ◌++◌, take, drop}
use Rattle.bits.specs.Bits.{digits, unpack}
use Rattle.bits.proofs.Filler.put.Given as goal

abbrev pub invariant-loop-count : goal.invariant-loop-count
invariant-loop-count l = record {
  place : l.at * 8 + l.count ≡ l.initial.at * 8 + l.initial.count;
  few : l.count ≤ 23;
  taken : unpack (take l.at l.out) ++ digits l.count l.all ≡ unpack (take l.initial.at l.initial.out) ++ digits l.initial.count l.all;
  rest : drop l.at l.out ≡ drop l.at l.initial.out;
}

abbrev pub decreases-loop-count : goal.decreases-loop-count
decreases-loop-count l = l.count
