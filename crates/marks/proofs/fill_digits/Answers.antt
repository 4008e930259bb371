use Rattle.std.proofs.Common.{◌≡◌, ℕ, ◌<◌, List, get_or, replicate, ◌∙◌, arith}
use Rattle.std.proofs.lemmas.List.{get_or-replicate}
use Rattle.states.specs.States.{each}
use Rattle.states.proofs.States.{state-none, state-only, state-low}
use Rattle.marks.proofs.Digits.{table-next}
use Rattle.marks.proofs.fill_digits.Goals as goal

pub loop-q-init : goal.loop-q-init
loop-q-init c =
    let shape = c.args.shape in
    let zeros : List ℕ = replicate 6 0 in
    let none : (t : ℕ) → t < shape.n → get_or zeros t 0 ≡ 0 =
    λ t h. get_or-replicate {A = ℕ} 6 t 0 0 (omega (arith, c.requires.0)) in
    record {
      tabled = record { entry = λ left w h. absurd (omega arith) };
      within = λ t h. omega (arith, none t h);
      number = λ h. state-none (each shape.size) (each zeros) shape.n none;
    }

pub loop-q-preserved : goal.loop-q-preserved
loop-q-preserved c =
    let shape = c.args.shape in
    let p = c.loop-q in
    let next = c.next_left-next.ensures in
    let number = p.invariant.number c.loop-q-test.true in
    record {
      tabled =
          table-next shape c.requires.0 p.digits _ p.q p.left p.invariant.tabled c.put_digits.ensures
          (λ left w is t h.
          state-only (each shape.size) (each p.left) left shape.n p.invariant.within w (number ∙ is) t h);
      within = next.0;
      number = λ more. next.1 (omega (arith, more, number, c.requires.1.0.all)) ∙ omega (arith, number);
    }

pub returns : goal.returns
returns c =
    let p = c.loop-q in
    record {
      long = omega (arith, p.auto.digits, c.requires.1.1);
      entry = λ left w t h.
          p.invariant.tabled.entry left w
          (omega (arith, state-low (each c.args.shape.size) left c.args.shape.n w, c.requires.1.0.all)) t h;
    }
