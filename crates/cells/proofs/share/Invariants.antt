-- The loop's invariant: what was counted and what is still to be counted is the share.
use Rattle.std.proofs.Common.{◌+◌, ◌*◌, ◌≤◌, ◌≡◌, length}
use Rattle.cells.specs.Cells.{share}
use Rattle.cells.proofs.share.Given as goal

abbrev pub invariant-loop-k : goal.invariant-loop-k
invariant-loop-k l = record {
  small : l.total + 255 * length l.k-iterator.a.rest.now ≤ 255 * 12;
  counted : l.total + share l.k-iterator.a.rest.now l.k-iterator.b.rest.now l.key ≡ share l.fn.keys l.fn.lost l.key;
}
