-- What the tactics leave open of `costs::can_lose_in`.
use Rattle.std.proofs.Common.{◌≡◌, ℕ, ◌+◌, ◌-◌, ◌%◌, get_or, sym, ◌∙◌, mod-lt, arith}
use Rattle.states.specs.States.{firsts}
use Rattle.column.specs.Column.{value_at}
use Rattle.column.proofs.Rows.{crosses-readable}
use Rattle.whole.specs.Whole.{modulus}
use Rattle.costs.specs.Costs.{brings_but}
use Rattle.costs.proofs.Costs.{one-sum, read_but}
use Rattle.costs.proofs.can_lose_in.Goals as goal

-- the residue of a row's other chunks in the column is in the set, and its own chunk of that block brings it to the sum
pub returns : goal.returns
returns c row vs left next light less crosses one =
    let a = c.args in
    let q = c.requires.0 in
    let s : ℕ = a.at in
    let h = c.requires.1.0 in
    let part : ℕ = get_or a.known.now a.j 0 + firsts (brings_but a.l a.y.now a.heavy a.j left s) a.heavy.n in
    let last : next s ≡ left s - 1 = omega (arith, one.0) in
    c.repairs_some.ensures (left s) (value_at a.l a.heavy vs a.j s) (part % modulus a.l) (omega (arith, one.0)) (less s h)
    record {
      low = mod-lt part (omega arith);
      among = c.fill_sums.ensures left (read_but crosses a.size s less one.1);
      small = crosses.small s h;
      readable = rw last at (crosses-readable crosses s h);
      loses = crosses.loses s h ∙ omega (arith, one.0);
      hits = one-sum crosses q.fit q.column a.known.now light s h one.1 ∙ sym c.from-sum.ensures;
    }
