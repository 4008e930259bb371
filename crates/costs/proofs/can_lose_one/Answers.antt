-- What the tactics leave open of `costs::can_lose_one`.
use Rattle.std.proofs.Common.{ℕ, sym, ◌∙◌, true≢false, arith, below_more}
use Rattle.whole.specs.Whole.{OneLess}
use Rattle.costs.proofs.can_lose_one.Goals as goal

-- no row has its one loss in block s
pub loop-s-preserved : goal.loop-s-preserved
loop-s-preserved c row vs left next light less crosses =
    below_more (λ (s : ℕ). OneLess c.args.heavy.n left next s → ⊥) c.loop-s.s
    (c.loop-s.invariant row vs left next light less crosses)
    (λ one.
    true≢false
    (sym (c.can_lose_in.ensures row vs left next light less crosses one) ∙ c.if-can_lose_in.false))

-- all blocks are passed
pub returns : goal.returns
returns c row vs left next light less crosses some =
    absurd (c.loop-s.invariant row vs left next light less crosses some.0 (omega (arith, some.1.0)) some.1.1)
