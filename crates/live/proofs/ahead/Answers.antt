-- What the tactics leave open of `live::ahead`.
use Rattle.std.proofs.Common.{◌≡◌, ℕ, ◌+◌, ◌-◌, ◌*◌, ◌<◌, ◌≤◌, true, List, get_or, sym, true≢false, ⊎_elim, mul-le-mul_right, arith, lt-ltb}
use Rattle.std.proofs.Math.Nat.{zero-mul}
use Rattle.bits.proofs.Laws.{lt_or_ge}
use Rattle.states.specs.States.{each, state_of}
use Rattle.column.specs.Column.{Light, apart_in}
use Rattle.marks.specs.Marks.{Path, mark_at, apart_before, apart_from, Through, Remade}
use Rattle.marks.specs.Digits.{Within}
use Rattle.marks.proofs.Digits.{some-state}
use Rattle.marks.proofs.Paths.{only_lets, through_lets, own_first, own-last, own-low, own-within, before-next}
use Rattle.marks.proofs.Paths.{before-none}
use Rattle.near.specs.Near.{most_after}
use Rattle.near.proofs.Near.{after_covers}
use Rattle.live.specs.Passes.{Regained}
use Rattle.live.proofs.Passes.{Passing, passing_first, passing_next, passing_through, split_up}
use Rattle.live.proofs.ahead.Goals as goal
use Rattle.live.proofs.ahead.Goals.{After-floors_of-floors}

pub overflow_sub-states : goal.overflow_sub-states
overflow_sub-states c = omega (arith, some-state c.requires.1.0)

pub only-requires : goal.only-requires
only-requires c =
    let some = some-state c.requires.1.0 in (
      omega arith,
      omega (arith, mul-le-mul_right {m = 1} {n = c.args.l.l2 + 1} c.args.shape.states (omega arith)),
    )

-- the marks at entry let the row through, and so they do where the loop starts
pub loop-j-init : goal.loop-j-init
loop-j-init c row vs own light path far through =
    let a = c.args in
    let kept = c.requires.1.0 in
    let o = c.only.ensures in
    let first = own_first a.l a.y.now a.numbers.now a.heavy row a.shape vs own kept path in
    let q : state_of a.shape (own 0) ≡ a.shape.states - 1 = omega arith in
    passing_first a.l a.shape _ own (apart_before a.l a.heavy a.z.now vs) (λ i. i ≤ 0)
    (λ i h d. let e : i ≡ 0 = omega arith in rw e (before-none a.l a.heavy a.z.now vs))
    (only_lets a.l a.y.now a.numbers.now a.heavy row a.shape vs own kept path 0 0 (a.shape.states - 1) a.marks.now _
    (sym (zero-mul a.shape.states)) o.0 (omega (arith, o.1)) q
    (through_lets a.l a.y.now a.numbers.now a.heavy row a.shape vs own kept path a.marks.now c.requires.1.1.1.1 through))

-- a row that is not near counts no less than the floor of its state in the next column
floor : (c : After-floors_of-floors) → let a = c.args in
    let j = c.loop-j.j in (row vs : List ℕ) (own : ℕ → ℕ → ℕ)
    → Path a.l a.y.now a.numbers.now a.heavy row (each a.shape.size) vs own
    → a.room ≤ apart_from a.l a.heavy a.z.now vs 0
    → get_or c.floors_of-floors.result (state_of a.shape (own (j + 1))) 0
    ≤ apart_before a.l a.heavy a.z.now vs j + apart_in a.l a.heavy a.z.now vs j a.heavy.n
floor c row vs own path far =
    let a = c.args in
    let j = c.loop-j.j in
    let kept = c.requires.1.0 in
    let inside : j + 1 ≤ a.l.l2 = omega arith in
    let next = before-next a.l a.heavy a.z.now vs j in
    let some : a.room
    ≤ apart_before a.l a.heavy a.z.now vs j + apart_in a.l a.heavy a.z.now vs j a.heavy.n
    + most_after a.l.l2 a.after.now (own (j + 1)) (j + 1) a.shape.n =
    ⊎_elim
    (λ far_some.
    omega (
      arith,
      far,
      next,
      after_covers a.l a.y.now a.numbers.now a.heavy row a.shape vs own kept path a.z.now a.after.now
          (c.requires.1.1.1.0.1 far_some) (j + 1) inside,
    ))
    (λ none. omega (arith, none))
    (lt_or_ge 0 a.room) in
    c.floors_of-floors.ensures.under (own (j + 1))
    (own-within a.l a.y.now a.numbers.now a.heavy row a.shape vs own kept path (j + 1) inside) _ some

-- after a turn one column more is passed
turned : (c : After-floors_of-floors) (marks : List ℕ)
    → let a = c.args in let j = c.loop-j.j in
    Remade a.shape.states ((j + 1) * a.shape.states) c.loop-j.marks marks
    → ((left : ℕ → ℕ) → Within a.shape left
    → 0 < get_or c.loop-j.marks ((j + 1) * a.shape.states + state_of a.shape left) 0
    → Regained a.l a.y.now a.numbers.now a.heavy a.known.now a.z.now a.shape j true c.loop-j.marks
    (j * a.shape.states) (get_or c.floors_of-floors.result (state_of a.shape left) 0) left
    (get_or marks ((j + 1) * a.shape.states + state_of a.shape left) 0))
    → (row vs : List ℕ) (own : ℕ → ℕ → ℕ) → Light a.l a.heavy row a.known.now
    → Path a.l a.y.now a.numbers.now a.heavy row (each a.shape.size) vs own
    → a.room ≤ apart_from a.l a.heavy a.z.now vs 0
    → Passing a.l a.shape c.loop-j.marks own (apart_before a.l a.heavy a.z.now vs) (λ t. t ≤ j)
    → Passing a.l a.shape marks own (apart_before a.l a.heavy a.z.now vs) (λ t. t ≤ j + 1)
turned c marks remade regained row vs own light path far passing =
    let a = c.args in
    let j = c.loop-j.j in
    let k : j < a.l.l2 = omega arith in
    passing_next a.l a.y.now a.numbers.now a.heavy row a.shape vs own c.requires.1.0 path a.known.now a.z.now j true
    (j + 1) j c.loop-j.marks marks c.floors_of-floors.result (apart_before a.l a.heavy a.z.now vs) (λ u. u ≤ j)
    (λ u. u ≤ j + 1) (omega arith) (omega arith) remade regained
    record { row = row; light = light; forth = λ e. path.crosses j k; back = λ e. absurd (true≢false e) }
    (omega (arith, before-next a.l a.heavy a.z.now vs j)) (floor c row vs own path far) (omega arith) (split_up j) passing

-- where the turn left no mark, no row that is not near is let through
pub returns-then-highest-eq0 : goal.returns-then-highest-eq0
returns-then-highest-eq0 c = (
  record {
    long = omega arith;
    through = λ row vs own light path far through. absurd (none row vs own light path far through);
  },
  λ row vs own light path far through. absurd (none row vs own light path far through),
)
  where
    none : let a = c.args in (row vs : List ℕ) (own : ℕ → ℕ → ℕ) → Light a.l a.heavy row a.known.now
        → Path a.l a.y.now a.numbers.now a.heavy row (each a.shape.size) vs own
        → a.room ≤ apart_from a.l a.heavy a.z.now vs 0 → Through a.l a.shape a.marks.now own (λ j. 0) → ⊥
    none row vs own light path far through =
        let a = c.args in
        let j = c.loop-j.j in
        let m = c.remake-highest.ensures in
        let inside : j + 1 ≤ a.l.l2 = omega arith in
        let passed = turned (goal.at.returns-then-highest-eq0 c).After-floors_of-floors _ m.0 m.1.1 row vs own light path far
        (c.loop-j.invariant row vs own light path far through) in
        omega (
          arith,
          m.1.0 (state_of a.shape (own (j + 1)))
              (own-low a.l a.y.now a.numbers.now a.heavy row a.shape vs own c.requires.1.0 path (j + 1) inside),
          passed.lets (j + 1) inside,
        )

pub loop-j-preserved : goal.loop-j-preserved
loop-j-preserved c row vs own light path far through =
    let m = c.remake-highest.ensures in
    turned (goal.at.loop-j-preserved c).After-floors_of-floors _ m.0 m.1.1 row vs own light path far
    (c.loop-j.invariant row vs own light path far through)

-- all columns are passed
pub returns : goal.returns
returns c =
    let a = c.args in
    let was = c.loop-j.invariant in (
      record {
        long = omega arith;
        through = λ row vs own light path far through.
            passing_through a.l a.shape _ own (apart_before a.l a.heavy a.z.now vs) (λ t. t ≤ c.loop-j.j)
            (λ t h. omega arith) (was row vs own light path far through);
      },
      λ row vs own light path far through.
          let last = own-last a.l a.y.now a.numbers.now a.heavy row a.shape vs own c.requires.1.0 path in
          let at : mark_at a.shape a.l.l2 (own a.l.l2) ≡ a.l.l2 * a.shape.states = omega (arith, last) in
          lt-ltb 0 _ (rw at at ((was row vs own light path far through).lets a.l.l2 (omega arith))),
    )
