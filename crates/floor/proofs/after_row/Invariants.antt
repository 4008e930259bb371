-- The loop's invariant: a row under the counts is at least the row `last` up to block b.
use Rattle.std.proofs.Common.{◌≡◌, ℕ, List, ◌*◌, ◌≤◌, take}
use Rattle.bits.specs.Bits.{unpack}
use Rattle.rows.specs.Order.{Row}
use Rattle.message.specs.Layout.{row_bits, block_bits}
use Rattle.consistent.specs.Greedy.{in_all}
use Rattle.anchor.specs.Anchor.{OwnCounts, LightInHand}
use Rattle.floor.specs.Floor.{AtLeast}
use Rattle.floor.proofs.after_row.Given as goal

abbrev pub invariant-loop-b : goal.invariant-loop-b
invariant-loop-b l = record {
  lost : l.d ≡ in_all (take l.b l.counts);
  few : l.d ≤ 255 * l.b;
  least : (x : List ℕ) → Row (row_bits l.l) x → OwnCounts l.l l.y l.counts l.i x → LightInHand l.l l.counts l.i l.row x
      → AtLeast (l.b * block_bits l.l) (unpack l.last) x;
}
