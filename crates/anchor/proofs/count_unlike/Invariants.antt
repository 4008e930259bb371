-- The loop's invariant: the chunks passed are counted.
use Rattle.std.proofs.Common.{◌≡◌, ◌≤◌, length}
use Rattle.anchor.specs.Anchor.{over}
use Rattle.lines.specs.Lines.{unlike}
use Rattle.anchor.proofs.count_unlike.Given as goal

abbrev pub invariant-loop-u : goal.invariant-loop-u
invariant-loop-u l = record {
  at_most : l.count ≤ length l.yielded;
  counted : l.count ≡ over (unlike l.us l.vs) l.from (length l.yielded);
}
