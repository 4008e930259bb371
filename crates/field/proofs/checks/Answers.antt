use Rattle.std.proofs.Common.{ℕ, List, ◌≡◌, ◌+◌, ◌-◌, ◌≤◌, length, sym, ◌∙◌, subst, arith}
use Rattle.field.specs.Exponents.{Exponents}
use Rattle.field.specs.Field.{check}
use Rattle.field.proofs.Double.{size-high}
use Rattle.field.proofs.Terms.{AreTerms, exponents-none, exponents-take, terms_check, first_terms, next_terms, entries_next}
use Rattle.field.proofs.checks.Goals as goal
use Rattle.field.proofs.checks.Goals.{Joined-i-gt0, then-i-gt0, else-i-gt0}

pub fill_terms-n-requires : goal.fill_terms-n-requires
fill_terms-n-requires c =
    let a = c.args in
    let q = c.requires.0 in
    let few : length a.chunks.now ≤ 256 = omega (arith, c.requires.1.0, size-high a.nc q.2) in
    let none = exponents-none a.nc q.1 256 in
    ((q.1, q.2, q.3, q.4), (c.requires.1.0, few, few), (none, none))

pub loop-i-init : goal.loop-i-init
loop-i-init c =
    let t = c.fill_terms-n in
    record {
      exponents = t.ensures.exponents;
      terms = first_terms c.args.nc c.requires.0.1 c.requires.0.2 t.result t.new.cs t.new.es;
      written = λ i h. absurd (omega arith);
    }

-- the exponents are those of the terms of check i
terms : (c : Joined-i-gt0) → let t = c.fill_terms-n in
    Exponents c.args.nc c.if-i-gt0.es × AreTerms c.args.nc t.result c.loop-i.i t.new.cs t.new.es c.if-i-gt0.es
terms c =
    let nc = c.args.nc in
    let t = c.fill_terms-n in
    let p = c.loop-i in
    let Are : List ℕ → Type 0 = λ es. Exponents nc es × AreTerms nc t.result p.i t.new.cs t.new.es es in
    elim c.if-i-gt0.branch [
      | then-i-gt0 w ↦ let raised = w.raise_all.ensures in
          let next =
          next_terms nc c.requires.0.1 c.requires.0.2 t.result (p.i - 1) p.i t.new.cs t.new.es p.es w.raise_all.new.es
          (omega arith) p.invariant.terms (λ k h. raised.1 k (omega arith)) in
          subst Are (sym w.es-is) (raised.0, next)
      | else-i-gt0 w ↦ let e : p.i - 1 ≡ p.i = omega arith in
          subst Are (sym w.es-is) (p.invariant.exponents, rw e at p.invariant.terms)
    ]

pub sum-requires : goal.sum-requires
sum-requires c =
    let q = c.requires.0 in
    let all = (terms (goal.at.sum-requires c).Joined-i-gt0).0 in
    (q.0, q.1, q.2, exponents-take c.args.nc c.fill_terms-n.result c.if-i-gt0.es all)

pub loop-i-preserved : goal.loop-i-preserved
loop-i-preserved c =
    let a = c.args in
    let t = c.fill_terms-n in
    let p = c.loop-i in
    let q = terms (goal.at.loop-i-preserved c).Joined-i-gt0 in
    let n = t.result in
    let es = c.if-i-gt0.es in
    let long : n ≤ length es = omega (arith, t.ensures.few, size-high a.nc c.requires.0.2) in
    let last : p.i + 1 - 1 ≡ p.i = omega arith in
    let Is : ℕ → ℕ → Type 0 = λ i v. v ≡ check a.nc i a.chunks.now in
    let sum = c.sum.ensures ∙ terms_check a.nc n p.i a.chunks.now t.new.cs t.new.es es long t.ensures q.1 in
    record {
      exponents = q.0;
      terms = rw last q.1;
      written = entries_next Is p.i p.check-items p.invariant.written (omega arith) c.sum.result sum;
    }
