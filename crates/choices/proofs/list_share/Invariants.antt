-- The loop's invariant: the choices with fewer than g ones more than were received are listed.
use Rattle.std.proofs.Common.{◌≡◌, ◌+◌, ◌<◌, ◌≤◌}
use Rattle.bits.specs.Bits.{digits}
use Rattle.vt.specs.Ones.{ones}
use Rattle.column.specs.Column.{value_at}
use Rattle.choices.specs.Choices.{Keeps, ChoicesOf}
use Rattle.choices.proofs.list_share.Given as goal

abbrev pub invariant-loop-g : goal.invariant-loop-g
invariant-loop-g l = record {
  keeps : Keeps l.t l.initial.choices l.choices;
  count : l.end + l.v.first ≡ l.t + l.g;
  top : l.g ≤ l.a + 1;
  listed : ChoicesOf l.l l.y l.fn.heavy l.z l.j l.b l.left l.one l.choices l.t l.end
      (λ next vs. (l.left ≡ next l.b + l.a)
      × (ones (digits l.l.nc (value_at l.l l.fn.heavy vs l.j l.b)) < l.v.seen.ones + l.g));
}
