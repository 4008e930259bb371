-- The laws of Steps.antt and Sent.antt, for proofs that speak of the layout, the numbers and the received bits one by
-- one. Assumes nothing.
use Prim.Native.Nat.{ℕ, ◌*◌, ◌≤◌}
use mathlib.Core.Bool.{false}
use mathlib.Core.List.{List}
use lib.ListN.{length}
use Rattle.bits.specs.Bits.{bytes_for}
use Rattle.message.specs.Layout.{row_bits}
use Rattle.message.specs.declared.Layout.{Layout}
use Rattle.consistent.specs.Query.{query}
use Rattle.found.specs.Found.{Holding}
use Rattle.found.specs.Given.{consistent_with}
use Rattle.found.proofs.Steps as steps
pub use Rattle.found.proofs.Steps.{grown_rows, grown_length, grown_holding, grown_then, grown_none, grown_nothing}
pub use Rattle.found.proofs.Steps.{grown_row, grown_weaken, grown_turn, grown_all}
pub use Rattle.found.proofs.Sent.{Parts, sent_parts}

pub holding_none : (l : Layout) (numbers y : List ℕ) (cap : ℕ) (s : List ℕ) → cap * bytes_for (row_bits l) ≤ length s
    → Holding l numbers y cap s 0 false
holding_none l numbers y cap s h = steps.holding_none (consistent_with (query l numbers y)) cap s h
