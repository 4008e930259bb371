-- The loop's invariant: the chunks passed are counted.
use Rattle.std.proofs.Common.{◌≡◌, ◌-◌, ◌≤◌}
use Rattle.anchor.specs.Anchor.{over, wide}
use Rattle.anchor.proofs.count_wide.Given as goal

abbrev pub invariant-loop-c : goal.invariant-loop-c
invariant-loop-c l = record {
  at_most : l.count ≤ l.c - l.from;
  counted : l.count ≡ over (wide l.desk l.d l.a) l.from (l.c - l.from);
}
