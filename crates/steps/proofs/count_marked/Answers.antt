-- `steps::count_marked` meets its contract. Rests on Sweeping.antt. Assumes nothing.
use Rattle.std.proofs.Common.{◌≡◌, suc, ◌+◌, ◌-◌, ◌<◌, ◌∙◌, ap, length, get_or, set, take, drop, length-take, length-set, get_or-set_same, arith}
use Rattle.std.proofs.lemmas.List.{places}
use Rattle.steps.specs.Steps.{marked_below, one_if}
use Rattle.steps.proofs.Sweeping.{marked-most, counts-next}
use Rattle.steps.proofs.count_marked.Goals as goal
use Rattle.steps.proofs.count_marked.Goals.{After-one_if}

pub loop-q-init : goal.loop-q-init
unfolding marked_below
loop-q-init c q h =
    let some = c.args.some.now in
    let first : get_or (set some 0 0) 0 0 ≡ 0 = get_or-set_same some 0 0 0 (omega arith) in
    let e : q ≡ 0 = omega arith in
    rw (e, first)

-- the state of a turn is one of them, and its mark is counted
few : (c : After-one_if) → c.loop-q.q < c.args.states
few c =
    let a = c.args in
    omega (arith, length-take (a.at + a.states - a.at) (drop a.at a.marks.now))

own : (c : After-one_if) → c.one_if.result ≡ one_if (get_or c.args.marks.now (c.args.at + c.loop-q.q) 0)
own c =
    let a = c.args in
    let q = c.loop-q.q in
    let less = few c in
    let is : get_or (take (a.at + a.states - a.at) (drop a.at a.marks.now)) q 0 ≡ get_or a.marks.now (a.at + q) 0 =
    grind (arith, places) in
    c.one_if.ensures ∙ ap one_if is

pub overflow_add-some : goal.overflow_add-some
unfolding marked_below
overflow_add-some c =
    let a = c.args in
    let s = (goal.at.overflow_add-some c).After-one_if in
    let q = c.loop-q.q in
    omega (arith, c.loop-q.invariant q (omega arith), marked-most a.marks.now a.at (suc q), few s, own s)

pub loop-q-preserved : goal.loop-q-preserved
loop-q-preserved c =
    let a = c.args in
    let p = c.loop-q in
    let s = (goal.at.loop-q-preserved c).After-one_if in
    let room : p.q + 1 < length p.some = omega (arith, few s, length-set a.some.now 0 0) in
    counts-next a.marks.now a.at p.q c.one_if.result p.some room (own s) p.invariant
