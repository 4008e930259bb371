-- What `first::level_of` keeps in its loop: the level is above those one loss below in the blocks passed.
use Rattle.std.proofs.Common.{ℕ, ◌+◌, ◌-◌, ◌*◌, ◌<◌, ◌≤◌, get_or}
use Rattle.first.proofs.level_of.Given as goal

abbrev pub invariant-loop-s : goal.invariant-loop-s
invariant-loop-s l = record {
  own : l.initial.level ≤ l.level;
  down : (t : ℕ) → t < l.s → (v : ℕ) → 0 < get_or l.digits (l.q * 6 + t) 0 → 0 < get_or l.strides t 0
      → get_or l.strides t 0 ≤ l.q → 0 < v → v < 3 → v ≤ get_or l.levels (l.q - get_or l.strides t 0) 0
      → v + 1 ≤ l.level;
}
