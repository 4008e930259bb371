use Rattle.std.proofs.Common.{◌≡◌, ℕ, List, [], ◌∷◌, ◌+◌, ◌<◌, ◌∙◌, length, sym, get_or, arith, rules, length-append}
use borrow.Author.Tests.{eq-eqb, ne_eqb}
use Rattle.std.specs.List.{between}
use Rattle.std.proofs.lemmas.List.Edits.{length-between, get_or-between}
use Rattle.std.proofs.lemmas.Slice.Zip.{zip_turn, zip_end}
use Rattle.lines.specs.Lines.{unlike}
use Rattle.anchor.proofs.Over.{over_none, over-next}
use Rattle.anchor.proofs.count_unlike.Goals as goal
use Rattle.anchor.proofs.count_unlike.Goals.{In-Some}

-- the chunks of a turn are those that follow the chunks passed
turn : (c : In-Some) →
    let a = c.args in
    let k = length c.loop-u.yielded in
    (k < a.n) × (c.in-Some.u.now ≡ get_or a.us.now (a.from + k) 0) × (c.in-Some.v.now ≡ get_or a.vs.now (a.from + k) 0)
turn c =
    let a = c.args in
    let p = c.loop-u in
    let us : List ℕ = between a.from (a.from + a.n) a.us.now in
    let vs : List ℕ = between a.from (a.from + a.n) a.vs.now in
    let t =
    zip_turn us vs p.yielded c.into_iter-u-iterator.result p.u-iterator c.next.new.self c.next.result (search rules) (search rules)
    p.yielded_by (c.in-Some.u, c.in-Some.v) c.in-Some.is c.next.ensures.steps
    in
    let few : length p.yielded < a.n = omega (arith, t.0, length-between a.us.now a.from (a.from + a.n) (omega arith)) in (
      few,
      t.2 0 ∙ get_or-between a.us.now a.from (a.from + a.n) (length p.yielded) 0 (omega arith),
      t.3 0 ∙ get_or-between a.vs.now a.from (a.from + a.n) (length p.yielded) 0 (omega arith),
    )

pub loop-u-init : goal.loop-u-init
loop-u-init c = record { at_most = omega arith; counted = sym (over_none (unlike c.args.us.now c.args.vs.now) c.args.from) }

pub loop-u-preserved-then-u-v : goal.loop-u-preserved-then-u-v
loop-u-preserved-then-u-v c =
    let a = c.args in
    let p = c.loop-u in
    let k : ℕ = length p.yielded in
    let t = turn (goal.at.loop-u-preserved-then-u-v c).In-Some in
    let e = ne_eqb (get_or a.us.now (a.from + k) 0) (get_or a.vs.now (a.from + k) 0) (rw (t.1, t.2) at c.if-u-v.true) in
    let n = rw e at (over-next (unlike a.us.now a.vs.now) a.from k) in
    let l = length-append p.yielded ((c.in-Some.u, c.in-Some.v) ∷ []) in
    rw l (record { at_most = omega arith; counted = omega (arith, p.invariant.counted, n) })

pub loop-u-preserved : goal.loop-u-preserved
loop-u-preserved c =
    let a = c.args in
    let p = c.loop-u in
    let k : ℕ = length p.yielded in
    let t = turn (goal.at.loop-u-preserved c).In-Some in
    let e = eq-eqb (get_or a.us.now (a.from + k) 0) (get_or a.vs.now (a.from + k) 0) (rw (t.1, t.2) at c.if-u-v.false) in
    let n = rw e at (over-next (unlike a.us.now a.vs.now) a.from k) in
    let l = length-append p.yielded ((c.in-Some.u, c.in-Some.v) ∷ []) in
    rw l (record { at_most = omega arith; counted = omega (arith, p.invariant.counted, n) })

pub returns : goal.returns
returns c =
    let a = c.args in
    let p = c.loop-u in
    let us : List ℕ = between a.from (a.from + a.n) a.us.now in
    let vs : List ℕ = between a.from (a.from + a.n) a.vs.now in
    let all =
    zip_end us vs p.yielded c.into_iter-u-iterator.result p.u-iterator c.next.new.self c.next.result (search rules) (search rules) p.yielded_by
    c.in-None.is c.next.ensures.steps in
    let e : length p.yielded ≡ a.n =
    omega (arith, all, length-between a.us.now a.from (a.from + a.n) (omega arith), length-between a.vs.now a.from (a.from + a.n) (omega arith)) in
    (rw e at p.invariant.counted, omega arith)
