use Rattle.std.proofs.Common.{List, ℕ, [], ◌∷◌, ◌≡◌, ◌∙◌, refl, sym, inl, inr, length, arith, true}
use borrow.Author.Tests.{eq-eqb, ne_eqb}
use Rattle.bits.specs.Bits.{same}
use Rattle.consistent.proofs.equal.Goals as goal

-- two that are at their ends
both_ended : (x y : List ℕ) → length x ≡ 0 → length y ≡ 0 → same x y ≡ true
unfolding same
both_ended [] [] e f = refl
both_ended [] (b ∷ y) e f = absurd (omega (arith, f))
both_ended (a ∷ x) y e f = absurd (omega (arith, e))

pub returns-then-from-number : goal.returns-then-from-number
unfolding same
returns-then-from-number c =
    let s = c.in-Some.ensures.steps in
    let n = ne_eqb c.in-Some.value.now c.in-Some.number.now (λ e. c.if-from-number.true (c.from.ensures ∙ e)) in
    sym (sym c.loop-value.invariant.left ∙ rw (s.0, s.1, n) refl)

pub loop-value-preserved : goal.loop-value-preserved
unfolding same
loop-value-preserved c =
    let s = c.in-Some.ensures.steps in
    let e = eq-eqb c.in-Some.value.now c.in-Some.number.now (sym c.from.ensures ∙ c.if-from-number.false) in
    record {
      as_long = omega (arith, (rw (s.0, s.1) at c.loop-value.invariant.as_long));
      left = (rw (s.0, s.1, e) at c.loop-value.invariant.left);
    }

pub returns : goal.returns
returns c =
    let p = c.loop-value.invariant in
    elim c.in-None.ensures.steps [
      | inl u ↦ sym (sym p.left ∙ both_ended _ _ u.1.0 (sym p.as_long ∙ u.1.0))
      | inr u ↦ sym (sym p.left ∙ both_ended _ _ (p.as_long ∙ u.1.0) u.1.0)
    ]
