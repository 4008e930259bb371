-- What the tactics leave open of `costs::fill_sums`.
use Rattle.std.proofs.Common.{◌≡◌, ℕ, ◌+◌, ◌%◌, List, get_or, sym, subst, add-one, arith}
use Rattle.states.specs.States.{firsts}
use Rattle.whole.specs.Whole.{modulus, brings_in}
use Rattle.sets.specs.Sets.{Twice}
use Rattle.sets.proofs.Sets.{next_in}
use Rattle.costs.specs.Costs.{brings_but}
use Rattle.costs.proofs.Costs.{but_own, but_other}
use Rattle.costs.proofs.fill_sums.Goals as goal
use Rattle.costs.proofs.fill_sums.Goals.{then-s-but, else-s-but}

-- the chunks in hand are put in
pub loop-s-init : goal.loop-s-init
unfolding firsts
loop-s-init c left read =
    let z : get_or c.args.known.now c.args.j 0 + 0 ≡ c.from.result = omega (arith, c.from.ensures) in
    rw z c.only.ensures

-- what the chunk of block s brings is put in, unless it is left out
pub loop-s-preserved : goal.loop-s-preserved
unfolding firsts
loop-s-preserved c left read =
    let a = c.args in
    let known : ℕ = get_or a.known.now a.j 0 in
    let m : ℕ = modulus a.l in
    let s : ℕ = c.loop-s.s in
    let gain : ℕ → ℕ = brings_but a.l a.y.now a.heavy a.j left a.but in
    let was = c.loop-s.invariant left (λ t k d. read t (omega arith) d) in
    let Holds : List ℕ → Type 0 = λ set. Twice m set ((known + (firsts gain s + gain s)) % m) in
    rw (add-one s)
    (elim c.if-s-but.branch [
      | then-s-but w ↦ let own = read s (omega arith) w.if-s-but.true in
          let moved = w.take_block.ensures (left s) own.0 own.1 in
          let e = but_other a.l a.y.now a.heavy a.j left a.but s w.if-s-but.true in
          subst Holds (sym w.set-is)
          (rw e
          (next_in m known (firsts gain s) (brings_in a.l a.y.now a.heavy a.j left s) c.loop-s.set w.take_block.new.set
          (omega arith) moved was))
      | else-s-but w ↦ let e : gain s ≡ 0 = rw w.if-s-but.false (but_own a.l a.y.now a.heavy a.j left a.but) in
          let z : known + (firsts gain s + 0) ≡ known + firsts gain s = omega arith in
          subst Holds (sym w.set-is) (rw (e, z) was)
    ])

-- all blocks are passed
pub returns : goal.returns
returns c left read =
    let k : c.loop-s.s ≡ c.args.heavy.n = omega arith in
    rw k at (c.loop-s.invariant left (λ t h d. read t (omega arith) d)).0
