-- What the tactics leave open of `first::complete`.
use Rattle.std.proofs.Common.{◌≡◌, ℕ, ◌+◌, ◌-◌, ◌<◌, ◌≤◌, get_or, arith, lt-ltb}
use Rattle.std.proofs.Math.Nat.{zero-mul}
use Rattle.states.specs.States.{state_of}
use Rattle.marks.specs.Marks.{mark_at}
use Rattle.marks.proofs.Digits.{some-state}
use Rattle.marks.proofs.Paths.{lets_through, own_first, own-low}
use Rattle.first.proofs.First.{first_next, last_let}
use Rattle.first.proofs.complete.Goals as goal

pub only-requires : goal.only-requires
only-requires c = (some-state c.requires.1.0, omega arith)

-- the last column is made
pub loop-j-init : goal.loop-j-init
loop-j-init c row vs own light path far =
    let a = c.args in
    last_let a.l a.y.now a.numbers.now a.heavy row a.shape vs own c.requires.1.0 path a.marks.now _ c.only.ensures.0
    (omega (arith, c.only.ensures.1))

-- a row would have its mark in the column
pub returns-then-highest-eq0 : goal.returns-then-highest-eq0
returns-then-highest-eq0 c =
    let a = c.args in
    let j : ℕ = c.loop-j.j - 1 in
    let e : j + 1 ≡ c.loop-j.j = omega arith in
    let k : j < a.l.l2 = omega arith in
    let f = c.complete_column-highest.ensures in (
      omega arith,
      λ row vs own light path far.
          absurd (omega (
            arith,
            f.1.0 (state_of a.shape (own j))
                (own-low a.l a.y.now a.numbers.now a.heavy row a.shape vs own c.requires.1.0 path j (omega arith)),
            first_next a.l a.y.now a.numbers.now a.heavy row a.shape vs own c.requires.1.0 path a.known.now light j
                c.loop-j.marks _ _ k (far j (omega arith)) f.0 f.1.1 (rw e (c.loop-j.invariant row vs own light path far))
                j (omega arith) (omega arith),
          )),
    )

-- one column more
pub loop-j-preserved : goal.loop-j-preserved
loop-j-preserved c row vs own light path far =
    let a = c.args in
    let j : ℕ = c.loop-j.j - 1 in
    let e : j + 1 ≡ c.loop-j.j = omega arith in
    let f = c.complete_column-highest.ensures in
    first_next a.l a.y.now a.numbers.now a.heavy row a.shape vs own c.requires.1.0 path a.known.now light j
    c.loop-j.marks _ _ (omega arith) (far j (omega arith)) f.0 f.1.1
    (rw e (c.loop-j.invariant row vs own light path far))

pub overflow_sub-result : goal.overflow_sub-result
overflow_sub-result c = omega (arith, some-state c.requires.1.0)

-- every column is made
pub returns : goal.returns
returns c =
    let a = c.args in (
      omega arith,
      λ row vs own light path far.
          let t : (i : ℕ) → i ≤ a.l.l2 → 0 < get_or c.loop-j.marks (mark_at a.shape i (own i)) 0 =
          λ i h. c.loop-j.invariant row vs own light path far i (omega arith) h in
          let f = own_first a.l a.y.now a.numbers.now a.heavy row a.shape vs own c.requires.1.0 path in
          let e : mark_at a.shape 0 (own 0) ≡ a.shape.states - 1 = omega (arith, zero-mul a.shape.states) in (
            lt-ltb 0 (get_or c.loop-j.marks (a.shape.states - 1) 0) (rw e at (t 0 (omega arith))),
            lets_through a.l a.y.now a.numbers.now a.heavy row a.shape vs own c.requires.1.0 path c.loop-j.marks t,
          ),
    )
