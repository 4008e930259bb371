-- What the tactics leave open of `live::spread`: ahead, a row crosses the column from the state p to its own, and its mark
-- is raised as the sweep says.
use Rattle.std.proofs.Common.{◌≡◌, ℕ, ◌<◌, Bool, false, get_or, refl, sym, subst, arith}
use Rattle.states.specs.States.{each, state_of}
use Rattle.column.specs.Column.{apart_in}
use Rattle.marks.specs.Digits.{entry_of}
use Rattle.marks.proofs.Digits.{entry_is, entry-low, number-low}
use Rattle.marks.proofs.Paths.{crosses-same}
use Rattle.live.specs.Passes.{Gains}
use Rattle.live.proofs.Steps.{gains-same, above_covers}
use Rattle.live.proofs.spread.Goals as goal
use Rattle.live.proofs.spread.Goals.{After-digits_of-other}

-- what is left in the state p
other_is : (c : After-digits_of-other) → let a = c.args in (t : ℕ) → t < a.heavy.n
    → entry_of a.digits.now a.p t ≡ each c.digits_of-other.result t
other_is c t h =
    let few = c.requires.0.fit.few in
    sym (c.digits_of-other.ensures t (omega arith))

pub raise-requires : goal.raise-requires
raise-requires c =
    let p = c.requires in
    let r = p.0 in
    let kept = p.1.1.0.0 in
    let rest = p.1.1.1 in (
      (r.fit, (r.tables, (p.1.0, (r.long, r.all)))),
      (
        (
          record {
            blocks = kept.blocks;
            shaped = kept.shaped;
            states = kept.few;
            within = λ t h.
                let few = r.fit.few in
                omega (
                  arith,
                  c.digits_of-other.ensures t (omega (arith, kept.blocks, h)),
                  entry-low kept.shaped.all p.1.1.0.1 c.args.p rest.0 t h,
                );
          },
          record { marked = rest.1.0; long-some = rest.1.1.1.0; counted = rest.1.1.1.1 },
        ),
        rest.1.1.0,
      ),
    )

pub returns-then-ahead : goal.returns-then-ahead
returns-then-ahead c =
    let a = c.args in
    let e = c.raise.ensures in
    let is = other_is (goal.at.returns-then-ahead c).After-digits_of-other in
    record {
      long = e.0.long;
      grows = e.0.grows;
      gains = λ own w down m vs n k v.
          let x =
          crosses-same a.l a.y.now a.numbers.now a.heavy k.row a.j vs (entry_of a.digits.now a.p)
          (each c.digits_of-other.result) own own is (λ t h. refl) (k.forth c.if-ahead.true) in
          above_covers a.there (apart_in a.l a.heavy a.z.now vs a.j a.heavy.n) _ n (e.1 k.row vs own k.light x m) v;
    }

pub returns : goal.returns
returns c =
    let a = c.args in
    let p = c.requires.1.1.0 in
    let e = c.spread_over.ensures in
    let is = other_is (goal.at.returns c).After-digits_of-other in
    record {
      long = e.long;
      grows = e.grows;
      gains = λ own w down m.
          let back = c.if-ahead.false in
          let q = state_of a.shape own in
          subst
          (λ (b : Bool). Gains a.l a.y.now a.numbers.now a.heavy a.known.now a.z.now a.j b own
          (entry_of a.digits.now a.p) a.there (get_or c.spread_over.new.fresh q 0))
          (sym back)
          (gains-same a.l a.y.now a.numbers.now a.heavy a.known.now a.z.now a.j false (entry_of a.digits.now q) own
          (each c.digits_of-other.result) (entry_of a.digits.now a.p) a.there _ (entry_is p.0 p.1 own w q refl) is
          (e.gains q (down back) (number-low p.0 own w) m));
    }
