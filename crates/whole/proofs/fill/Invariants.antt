-- The loop's invariant: the blocks passed have their entries.
use Rattle.std.proofs.Common.{◌≡◌, ℕ, ◌<◌, ◌≤◌, length, get_or}
use Rattle.states.specs.States.{each, entry_at}
use Rattle.whole.specs.Whole.{Legible, brings}
use Rattle.whole.proofs.fill.Given as goal

abbrev pub invariant-loop-s : goal.invariant-loop-s
invariant-loop-s l =
    (t : ℕ) → t < l.s → (e : ℕ) → e ≤ each l.fn.size t
    → Legible l.l (length l.y) (get_or l.fn.heavy.block t 0) (get_or l.fn.heavy.end t 0) l.j e
    → get_or l.table (entry_at t e) 0 ≡ brings l.l l.y (get_or l.fn.heavy.block t 0) (get_or l.fn.heavy.end t 0) l.j e
