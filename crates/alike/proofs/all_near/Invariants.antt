-- What `alike::all_near` keeps in its loop: a row under the pattern counts no more up to column j, with all blocks for each
-- loss that it has left there, than so many, which are fewer than room.
use Rattle.std.proofs.Common.{◌≡◌, ℕ, ◌+◌, ◌*◌, ◌<◌, ◌≤◌, List, length}
use Rattle.states.specs.States.{each, firsts}
use Rattle.column.specs.Column.{Light}
use Rattle.marks.specs.Marks.{Path, apart_before}
use Rattle.alike.proofs.all_near.Given as goal

abbrev pub invariant-loop-j : goal.invariant-loop-j
invariant-loop-j l = record {
  set_long : length l.set ≡ 64;
  other_long : length l.other ≡ 32;
  few : l.most ≤ 9180 + l.j * 6;
  near : l.most < l.room;
  counted : (row vs : List ℕ) (own : ℕ → ℕ → ℕ) → Light l.l l.heavy row l.known
      → Path l.l l.y l.numbers l.heavy row (each l.size) vs own
      → ((s : ℕ) → s < l.heavy.n → own l.j s ≤ each l.size s)
      × (apart_before l.l l.heavy l.z vs l.j + l.heavy.n * firsts (own l.j) l.heavy.n ≤ l.most);
}
