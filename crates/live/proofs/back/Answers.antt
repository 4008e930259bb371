-- What the tactics leave open of `live::back`.
use Rattle.std.proofs.Common.{◌≡◌, ℕ, ◌+◌, ◌-◌, ◌*◌, ◌<◌, ◌≤◌, false, refl, sym, true≢false, arith}
use Rattle.std.proofs.Math.ListN.{replicate, get_or-replicate}
use Rattle.states.specs.States.{most_states, state_of}
use Rattle.marks.specs.Marks.{apart_from}
use Rattle.marks.proofs.Marks.{two_columns}
use Rattle.marks.proofs.Digits.{some-state}
use Rattle.marks.proofs.Paths.{only_lets, through_lets, own-last, own-low, before-next}
use Rattle.live.proofs.Passes.{passing_first, passing_next, passing_through, split_down}
use Rattle.live.proofs.Floors.{no_floors}
use Rattle.live.proofs.back.Goals as goal

pub only-requires : goal.only-requires
only-requires c = (some-state c.requires.1.0, omega arith)

-- the marks at entry let the row through, and so they do where the loop starts
pub loop-j-init : goal.loop-j-init
loop-j-init c row vs own light path through =
    let a = c.args in
    let o = c.only.ensures in
    let kept = c.requires.1.0 in
    let last = own-last a.l a.y.now a.numbers.now a.heavy row a.shape vs own kept path in
    passing_first a.l a.shape _ own (apart_from a.l a.heavy a.z.now vs) (λ i. a.l.l2 ≤ i)
    (λ i h d. let e : i ≡ a.l.l2 = omega arith in rw e (omega arith))
    (only_lets a.l a.y.now a.numbers.now a.heavy row a.shape vs own kept path a.l.l2 (a.l.l2 * a.shape.states) 0
    a.marks.now _ refl o.0 (omega (arith, o.1)) last
    (through_lets a.l a.y.now a.numbers.now a.heavy row a.shape vs own kept path a.marks.now c.requires.1.1.1 through))

pub remake-requires : goal.remake-requires
remake-requires c =
    let p = c.requires in
    let j : ℕ = c.loop-j.j - 1 in
    let place = two_columns c.args.shape.states j c.args.l.l2 c.args.marks.now (omega arith) p.1.1.1 in
    (p.0, (omega arith, (p.1.0, (p.1.1.0, (omega arith, (omega arith, no_floors))))))

-- one column more is passed
pub loop-j-preserved : goal.loop-j-preserved
loop-j-preserved c row vs own light path through =
    let a = c.args in
    let kept = c.requires.1.0 in
    let j : ℕ = c.loop-j.j - 1 in
    let k : j < a.l.l2 = omega arith in
    let e : j + 1 ≡ c.loop-j.j = omega arith in
    let m = c.remake.ensures in
    let low : state_of a.shape (own j) < most_states =
    omega (
      arith,
      kept.few,
      own-low a.l a.y.now a.numbers.now a.heavy row a.shape vs own kept path j (omega arith),
    ) in
    passing_next a.l a.y.now a.numbers.now a.heavy row a.shape vs own kept path a.known.now a.z.now j false j (j + 1)
    c.loop-j.marks _ (replicate most_states 0) (apart_from a.l a.heavy a.z.now vs) (λ t. j + 1 ≤ t) (λ t. j ≤ t)
    (omega arith) (omega arith) m.0 m.1.1
    record {
      row = row;
      light = light;
      forth = λ d. absurd (true≢false (sym d));
      back = λ d. path.crosses j k;
    }
    (omega (arith, before-next a.l a.heavy a.z.now vs j))
    (omega (arith, get_or-replicate {A = ℕ} most_states (state_of a.shape (own j)) 0 0 (omega (arith, low))))
    (omega arith) (split_down j) (rw e (c.loop-j.invariant row vs own light path through))

-- every column is passed
pub returns : goal.returns
returns c =
    let a = c.args in
    record {
      long = omega arith;
      through = λ row vs own light path far through.
          passing_through a.l a.shape _ own (apart_from a.l a.heavy a.z.now vs) (λ t. c.loop-j.j ≤ t)
          (λ t h. omega arith) (c.loop-j.invariant row vs own light path through);
    }
