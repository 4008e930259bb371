-- What the tactics leave open of `alike::can_differ`.
use Rattle.std.proofs.Common.{ℕ, ◌<◌, sym, ◌∙◌, true≢false, arith, below_more}
use Rattle.far.specs.Far.{read_apart}
use Rattle.far.proofs.Unlost.{reads_same}
use Rattle.alike.proofs.Alike.{apart_some}
use Rattle.alike.proofs.can_differ.Goals as goal

-- the chunk of block s is as in z
pub loop-s-preserved : goal.loop-s-preserved
loop-s-preserved c row vs left next light less crosses kept =
    let a = c.args in
    below_more (λ (s : ℕ). 0 < read_apart a.l a.y.now a.heavy a.z.now s a.j (left s) → ⊥) c.loop-s.s
    (c.loop-s.invariant row vs left next light less crosses kept)
    (λ apart.
    true≢false
    (sym (c.can_differ_in.ensures row vs left next light less crosses (kept, apart)) ∙ c.if-can_differ_in.false))

-- all blocks are passed
pub returns : goal.returns
returns c row vs left next light less crosses kept apart =
    let a = c.args in
    let r = apart_some a.l a.heavy a.z.now vs a.j a.heavy.n apart in
    let h = r.1.0 in
    absurd (c.loop-s.invariant row vs left next light less crosses kept r.0 (omega (arith, h))
    (omega (arith, r.1.1, reads_same crosses r.0 h (kept r.0 h) a.z.now)))
