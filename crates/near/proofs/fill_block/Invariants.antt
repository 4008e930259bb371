-- The loop's invariant: the entries passed have what the tables say, and those before them stay.
use Rattle.std.proofs.Common.{◌≡◌, ℕ, ◌<◌, get_or}
use Rattle.states.specs.States.{entry_at}
use Rattle.near.specs.Near.{SaysIn}
use Rattle.near.proofs.fill_block.Given as goal

abbrev pub invariant-loop-left : goal.invariant-loop-left
invariant-loop-left l = record {
  before : (i : ℕ) → i < entry_at l.s 0 → get_or l.values i 0 ≡ get_or l.initial.values i 0;
  says : (k : ℕ) → k < l.left → SaysIn l.columns l.before l.after l.s l.size l.j l.values k;
}
