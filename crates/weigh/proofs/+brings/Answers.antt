-- `weigh::brings` meets its contract. Rests on Spans.antt. Assumes nothing.
use Rattle.std.proofs.Common.{◌≡◌, ℕ, ◌+◌, ◌≤◌, ◌%◌, sym, ◌∙◌, get_or, arith}
use Rattle.std.proofs.lemmas.Bool.{false≢true}
use Rattle.bits.specs.Bits.{digits}
use Rattle.vt.specs.Ones.{ones}
use Rattle.weigh.specs.Weigh.{Can, brought, Within}
use Rattle.weigh.proofs.Spans.{ones_between, wider_holds}
use Rattle.weigh.proofs.+brings.Goals as goal
use Rattle.weigh.proofs.+brings.Goals.{After-more_ones-more, Else-found, then-s-chunks, else-s-chunks}

-- the ones of a content of chunk s: between the fewest and the most more than were received
between : (t : ℕ) (c : After-more_ones-more t) (vs : ℕ → ℕ) → Can c.args.nc c.args.y.now c.args.chunks vs
    → (c.look-seen.result.ones + c.more_ones-more.result.first ≤ ones (digits c.args.nc (vs c.args.s)))
    × (ones (digits c.args.nc (vs c.args.s)) ≤ c.look-seen.result.ones + c.more_ones-more.result.last)
between t c vs can =
    let a = c.args in
    ones_between a.nc c.from-lost.result (vs a.s) (get_or a.chunks.place a.s 0) a.y.now
    (c.is_there.ensures.0 c.if-not-is_there.false).0
    (can.loses a.s (omega arith) ∙ sym c.from-lost.ensures) c.look-seen.ensures c.more_ones-more.ensures

-- after a turn that found nothing, contents that bring what is needed have not just g ones more
not-just : (t : ℕ) (c : Else-found t) (vs : ℕ → ℕ) → Can c.args.nc c.args.y.now c.args.chunks vs
    → Within c.args.nc c.args.chunks vs c.args.s c.args.span
    → brought c.args.nc c.args.chunks.block vs c.args.chunks.n % c.args.modulus ≡ c.args.need
    → ones (digits c.args.nc (vs c.args.s)) ≡ c.look-seen.result.ones + c.loop-g.g → ⊥
not-just t c vs can inside e just =
    let a = c.args in
    let far = brought a.nc a.chunks.block vs (a.s + 1) in
    let b = wider_holds can a.s (omega arith) c.look-seen.result c.loop-g.g a.span c.widen-wider.result
    (rw c.from-lost.ensures at c.look-seen.ensures) just
    (rw (c.from-lost.ensures, c.from.ensures) at c.widen-wider.ensures) inside in
    elim c.if-s-chunks.branch [
      | then-s-chunks w ↦
          false≢true (sym c.if-found.false ∙ w.found-is ∙ w.reaches-found.ensures far b.low b.high (rw w.if-s-chunks.true e))
      | else-s-chunks w ↦ false≢true (sym c.if-found.false ∙ w.found-is ∙ w.brings-found.ensures vs can b e)
    ]

pub loop-g-init : goal.loop-g-init
loop-g-init t c vs can inside e = (between t c vs can).0

pub loop-g-preserved : goal.loop-g-preserved
loop-g-preserved t c vs can inside e =
    omega (arith, c.loop-g.invariant vs can inside e, not-just t (goal.at.loop-g-preserved t c).Else-found vs can inside e)

pub returns-else-not-is_there : goal.returns-else-not-is_there
returns-else-not-is_there t c vs can inside e =
    absurd (omega (arith, c.loop-g.invariant vs can inside e, (between t (goal.at.returns-else-not-is_there t c).After-more_ones-more vs can).1))

pub returns-else-found : goal.returns-else-found
returns-else-found t c vs can inside e =
    absurd (omega (arith, c.loop-g.invariant vs can inside e, not-just t (goal.at.returns-else-found t c).Else-found vs can inside e, (between t (goal.at.returns-else-found t c).After-more_ones-more vs can).1))
