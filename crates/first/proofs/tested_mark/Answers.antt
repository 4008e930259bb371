-- What the tactics leave open of `first::tested_mark`: where no chunk loses a bit, each brings what is read.
use Rattle.std.proofs.Common.{◌≡◌, ℕ, ◌+◌, ◌%◌, ◌<◌, ◌≤◌, get_or, refl, sym, ap, ◌∙◌, true≢false, arith}
use Rattle.message.proofs.Legal.{legal_bounds, sizes, string_high}
use Rattle.states.specs.States.{each, firsts, entry_at, added_up}
use Rattle.whole.specs.Whole.{modulus}
use Rattle.states.proofs.Sums.{firsts_same}
use Rattle.whole.proofs.Whole.{weightOf, weights-sum, kept-legible, kept_read}
use Rattle.marks.specs.Digits.{entry_of}
use Rattle.marks.proofs.Digits.{entry-low}
use Rattle.marks.proofs.Paths.{crosses-same}
use Rattle.first.proofs.tested_mark.Goals as goal
use Rattle.first.proofs.tested_mark.Goals.{After-digits_of-left}

-- the losses left are those of the state, and few
left_is : (c : After-digits_of-left) → let a = c.args in (s : ℕ) → s < a.heavy.n
    → (entry_of a.digits.now a.q s ≡ each c.digits_of-left.result s)
    × (each c.digits_of-left.result s ≤ each a.shape.size s)
left_is c s h =
    let p = c.requires in
    let t = p.0.0 in
    let e = c.digits_of-left.ensures s (omega (arith, h, t.fit.few)) in
    let low = entry-low t.kept.shaped.all p.0.1.1 c.args.q p.1.0 s (omega (arith, h, t.kept.blocks)) in
    (sym e, omega (arith, e, low))

pub all-requires : goal.all-requires
all-requires c =
    let t = c.requires.0.0 in
    let is = left_is (goal.at.all-requires c).After-digits_of-left in
    (t.fit.few, (λ s h. omega (arith, (is s h).1, t.few s h), t.long))

pub stays-requires : goal.stays-requires
stays-requires c =
    let l = c.args.l in
    let t = c.requires.0.0 in
    let f = t.fit in
    (string_high l f.allowed, (t.column, ((sizes l (legal_bounds l f.allowed)).l1_high, f.sums)))

pub loses-requires : goal.loses-requires
loses-requires c =
    let p = c.requires in
    let is = left_is (goal.at.loses-requires c).After-digits_of-left in
    ((p.0.0, (λ s h. (is s h).1, omega (arith, c.all.ensures.0))), p.1)

pub returns : goal.returns
returns c =
    let a = c.args in
    let t = c.requires.0.0 in
    let is = left_is (goal.at.returns c).After-digits_of-left in
    let found = each c.digits_of-left.result in
    let left = entry_of a.digits.now a.q in
    let part : c.from.result + c.all.result ≡ get_or a.known.now a.j 0 + added_up a.readings.now found a.heavy.n =
    omega (arith, c.all.ensures.0) in
    record {
      high = λ h. absurd (omega arith);
      same = λ row vs next light crosses same v m.
          let x =
          crosses-same a.l a.y.now a.numbers.now a.heavy row a.j vs left found next next (λ k h. (is k h).0)
          (λ i k. refl) crosses in
          let kept : (k : ℕ) → k < a.heavy.n → next k ≡ found k = λ k h. same k h ∙ (is k h).0 in
          let read = firsts_same (λ k. get_or a.readings.now (entry_at k (found k)) 0) (weightOf x) a.heavy.n
          (λ k h. t.read k (found k) h (is k h).1 (kept-legible x k h (kept k h)) ∙ sym (kept_read x k h (kept k h))) in
          let all : c.from.result + c.all.result ≡ get_or a.known.now a.j 0 + firsts (weightOf x) a.heavy.n =
          omega (arith, part, read) in
          let sum = ap (λ (n : ℕ). n % modulus a.l) all ∙ weights-sum x t.fit t.column a.known.now light in
          absurd (true≢false (sym (c.stays.ensures sum m) ∙ c.if-stays.false));
      one = λ row vs next k h light crosses one low v m.
          absurd (true≢false (sym (c.loses.ensures row vs a.known.now next k h light part
          (crosses-same a.l a.y.now a.numbers.now a.heavy row a.j vs left found next next (λ k h. (is k h).0)
          (λ i k. refl) crosses)
          (one.0 ∙ (is k h).0, λ i k o. one.1 i k o ∙ (is i k).0) low m) ∙ c.if-loses.false));
    }
