-- What the tactics leave open of `live::make_marks`: a row that is not near is wide at each of its states.
use Rattle.std.proofs.Common.{ℕ, ◌≤◌, List, refl, sym, ◌∙◌, true≢false, ⊎_elim, arith}
use Rattle.bits.proofs.Laws.{lt_or_ge}
use Rattle.states.specs.States.{each}
use Rattle.marks.specs.Marks.{Path, apart_from}
use Rattle.near.specs.Near.{most}
use Rattle.near.proofs.Near.{most_covers}
use Rattle.live.proofs.make_marks.Goals as goal
use Rattle.live.proofs.make_marks.Goals.{After-fill_digits}

-- a row that is not near is wide at each of its states
wide : (c : After-fill_digits) → let a = c.args in (row vs : List ℕ) (own : ℕ → ℕ → ℕ)
    → Path a.l a.y.now a.numbers.now a.heavy row (each a.shape.size) vs own
    → a.room ≤ apart_from a.l a.heavy a.z.now vs 0 → (i : ℕ) → i ≤ a.l.l2
    → a.room ≤ most a.l.l2 a.before.now a.after.now (each a.shape.size) (own i) i a.shape.n
wide c row vs own path far i h =
    let a = c.args in
    ⊎_elim
    (λ some.
    omega (
      arith,
      far,
      most_covers a.l a.y.now a.numbers.now a.heavy row a.shape vs own c.requires.1.0 path a.z.now a.before.now a.after.now
          (c.requires.1.1.1.0 some) i h,
    ))
    (λ none. omega (arith, none))
    (lt_or_ge 0 a.room)

pub returns-then-not-complete : goal.returns-then-not-complete
returns-then-not-complete c =
    let far-off = wide (goal.at.returns-then-not-complete c).After-fill_digits in (
      refl,
      λ row vs own light path far.
          let e = c.complete.ensures.1 row vs own light path (far-off row vs own path far) in
          absurd (true≢false (sym e.0 ∙ c.if-not-complete.true)),
    )

pub count_marks-requires : goal.count_marks-requires
count_marks-requires c =
    let p = c.requires in (
      p.0,
      (
        p.1.0,
        (c.fill_digits.ensures, ((p.1.1.0.1, λ some. (p.1.1.1.0 some).back), omega (arith, c.complete.ensures.0))),
      ),
    )

pub returns : goal.returns
returns c =
    let far-off = wide (goal.at.returns c).After-fill_digits in (
      c.count_marks.ensures.0,
      λ row vs own light path far.
          c.count_marks.ensures.1 row vs own light path far
          (c.complete.ensures.1 row vs own light path (far-off row vs own path far)).1,
    )
