-- `sums::all_meet` meets its contract: what a row's block brings is in both of its sets. Assumes nothing.
use Rattle.std.proofs.Common.{◌≡◌, ℕ, ◌+◌, ◌*◌, sym, ◌∙◌, get_or, rules, arith}
use Rattle.std.proofs.lemmas.Bool.{false≢true}
use Rattle.message.proofs.Legal.{legal_bounds, sizes}
use Rattle.sums.specs.Sums.{block_modulus, rest, rest_at}
use Rattle.sums.proofs.all_meet.Goals as goal

pub overflow_mul-at : goal.overflow_mul-at
overflow_mul-at c = omega (arith, (sizes c.args.l (legal_bounds c.args.l c.requires.0)).l2_high)

pub overflow_add-at : goal.overflow_add-at
overflow_add-at c = omega (arith, (sizes c.args.l (legal_bounds c.args.l c.requires.0)).l2_high)

pub overflow_add-at-in-loop-s : goal.overflow_add-at-in-loop-s
overflow_add-at-in-loop-s c = omega (arith, (sizes c.args.l (legal_bounds c.args.l c.requires.0)).l2_high)

pub returns-then-not-meet : goal.returns-then-not-meet
returns-then-not-meet c vs own a b e =
    let x = c.args in
    let s = c.loop-s.s in
    let short = c.is_short.ensures.0 c.if-not-is_short.false in
    let n : ℕ = rest x.l x.heavy vs x.c s in
    let at : rest_at x.c s (own x.c s) ≡ x.c * 78 + s * 13 + c.from.result =
    omega (arith, e s (omega arith), c.from.ensures) in
    let there : get_or x.rests.now (x.c * 78 + s * 13 + c.from.result) 0 ≡ c.in-Some.rest.now = search rules in
    let both = c.meet.ensures (block_modulus x.l) n (a short s (omega arith))
    (rw (at, there) at (b short x.c s (omega arith) c.requires.1.1 (omega arith))) in
    absurd (false≢true (sym c.if-not-meet.true ∙ both))
