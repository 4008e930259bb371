-- What the tactics leave open of `alike::can_differ_in`.
use Rattle.std.proofs.Common.{◌≡◌, ℕ, ◌+◌, ◌%◌, ◌<◌, get_or, sym, ◌∙◌, mod-lt, arith}
use Rattle.states.specs.States.{firsts}
use Rattle.whole.specs.Whole.{modulus}
use Rattle.whole.proofs.Whole.{kept-legible, kept_read}
use Rattle.far.proofs.Unlost.{reads-there}
use Rattle.costs.specs.Costs.{brings_but}
use Rattle.costs.proofs.Costs.{one-sum, read_but}
use Rattle.alike.proofs.can_differ_in.Goals as goal

-- the residue of a row's other chunks in the column is in the set, and its own chunk of that block brings it to the sum
pub returns : goal.returns
returns c row vs left next light less crosses way =
    let a = c.args in
    let q = c.requires.0 in
    let s : ℕ = a.s in
    let h = c.requires.1.1.0 in
    let others : (t : ℕ) → t < a.heavy.n → (t ≡ s → ⊥) → next t ≡ left t = λ t i d. way.0 t i in
    let part : ℕ = get_or a.known.now a.j 0 + firsts (brings_but a.l a.y.now a.heavy a.j left s) a.heavy.n in
    c.other_hits.ensures (left s) (part % modulus a.l) (omega (arith, less s h, c.from-own.ensures))
    (reads-there crosses s h (way.0 s h)) way.1
    record {
      low = mod-lt part (omega arith);
      among = c.fill_sums.ensures left (read_but crosses a.size s less others);
      legible = kept-legible crosses s h (way.0 s h);
      sums = rw (kept_read crosses s h (way.0 s h)) at
          (one-sum crosses q.fit q.column a.known.now light s h others ∙ sym c.from-sum.ensures);
    }
