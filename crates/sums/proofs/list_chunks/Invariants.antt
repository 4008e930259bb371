-- The loop's invariant: the contents of the chunks passed are listed.
use Rattle.std.proofs.Common.{◌≡◌, get_or, length}
use Rattle.sums.specs.Sums.{Listing}
use Rattle.sums.proofs.list_chunks.Given as goal

abbrev pub invariant-loop-s : goal.invariant-loop-s
invariant-loop-s l = record {
  parts : length l.from ≡ 7;
  last : get_or l.from l.s 0 ≡ l.end;
  listed : Listing l.nc l.y l.chunks l.list l.from l.s;
}
