-- `sums::at_first` meets its contract. Assumes nothing.
use Rattle.std.proofs.Common.{◌≡◌, ℕ, ap, sym, ◌∙◌, get_or, length, ◌<◌, rules, arith, length-set}
use Rattle.std.proofs.Math.Nat.{mod-lt}
use Rattle.std.proofs.lemmas.List.{places}
use mathlib.Core.Logic.{⊎_elim}
use Rattle.bits.proofs.Laws.{lt_or_ge}
use Rattle.residues.specs.Residues.{Has}
use Rattle.sums.specs.Sums.{block_modulus, rest}
use Rattle.sums.proofs.Listed.{put_next}
use Rattle.sums.proofs.Rest.{rest-whole}
use Rattle.sums.proofs.at_first.Goals as goal
use Rattle.sums.proofs.at_first.Goals.{then-sum-lt64, else-sum-lt64}

pub loop-s-preserved : goal.loop-s-preserved
loop-s-preserved c =
    let a = c.args in
    let p = c.loop-s in
    let i = p.invariant in
    let inside : p.s < length p.sets = omega arith in
    let block : c.from.result ≡ get_or a.heavy.block p.s 0 = search (rules, places) in
    let own : c.from-sum.result ≡ get_or a.numbers.now (get_or a.heavy.block p.s 0) 0 =
    c.from-sum.ensures ∙ ap (λ (v : ℕ). get_or a.numbers.now v 0) block in
    record {
      size = elim c.if-sum-lt64.branch [
        | then-sum-lt64 w ↦ rw w.sets-is (length-set p.sets p.s _ ∙ i.size)
        | else-sum-lt64 w ↦ rw w.sets-is i.size
      ];
      held = λ t h low m k is.
          elim c.if-sum-lt64.branch [
            | then-sum-lt64 w ↦ rw w.sets-is
                (put_next p.sets p.s _ t (λ (v : ℕ). Has m v k) inside h
                (λ g. i.held t g low m k is)
                (λ e. w.only.ensures m k (is ∙ ap (λ (v : ℕ). get_or a.numbers.now (get_or a.heavy.block v 0) 0) e ∙ sym own)))
            | else-sum-lt64 w ↦ rw w.sets-is
                (⊎_elim
                (λ g. i.held t g low m k is)
                (λ g.
                let e : t ≡ p.s = omega arith in
                let same = ap (λ (v : ℕ). get_or a.numbers.now (get_or a.heavy.block v 0) 0) e in
                absurd (omega (arith, w.if-sum-lt64.false, own, same, low)))
                (lt_or_ge t p.s))
          ];
    }

pub returns : goal.returns
returns c vs sums short s h =
    let a = c.args in
    let whole = rest-whole a.l a.heavy vs s ∙ sums s h in
    c.loop-s.invariant.held s (omega arith)
    (omega (arith, whole, mod-lt (rest a.l a.heavy vs 0 s) {m = block_modulus a.l} (omega arith), short.blocks))
    _ (rest a.l a.heavy vs 0 s) whole
