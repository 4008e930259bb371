-- `choices::list_block` meets its contract. Rests on Listing.antt. Assumes nothing.
use Rattle.std.proofs.Common.{◌+◌, ◌<◌, ◌≤◌, arith}
use mathlib.Core.Logic.{inl, inr, ⊎_elim}
use Rattle.bits.proofs.Laws.{lt_or_ge}
use Rattle.message.proofs.Legal.{legal_bounds}
use Rattle.choices.specs.Choices.{Keeps, most_choices, ChoicesOf}
use Rattle.choices.proofs.Listing.{keeps_then, kept-listed, listed_then, listed_weaken, below_next, below-most}
use Rattle.choices.proofs.list_block.Goals as goal
use Rattle.choices.proofs.list_block.Goals.{After-list_share-end}

pub list_share-end-requires : goal.list_share-end-requires
list_share-end-requires c =
    let p = c.requires in
    let v = c.loop-a in
    let i = v.invariant in (
      p.0,
      (
        p.1.0,
        (
          omega arith,
          (
            p.1.1.0,
            λ h.
                let low : v.a ≤ 8 = omega (arith, h, (legal_bounds c.args.l p.0.0.allowed).nc_high) in
                let more = below-most (v.a + 1) (omega (arith, low)) in
                omega (arith, p.1.1.1, i.keeps.long, i.few (omega (arith, low)), below_next v.a, more),
          ),
        ),
      ),
    )

-- the choices with fewer losses than a + 1
module _ (c : After-list_share-end) where
  most : c.list_share-end.result ≤ c.args.t + most_choices
  most =
      let v = c.loop-a in
      let i = v.invariant in
      let e = c.list_share-end.ensures in
      let nc_high = (legal_bounds c.args.l c.requires.0.0.allowed).nc_high in
      ⊎_elim
      (λ (h : v.a < 9). omega (arith, e.0.1.0, i.few (omega arith), below_next v.a, below-most (v.a + 1) (omega arith)))
      (λ (h : 9 ≤ v.a). omega (arith, e.0.1.1 (omega (arith, h, nc_high)), i.most))
      (lt_or_ge v.a 9)

  keeps : Keeps c.args.t c.args.choices.now c.list_share-end.new.choices
  keeps = keeps_then c.loop-a.invariant.low c.loop-a.invariant.keeps c.list_share-end.ensures.0.0

  listed : let a = c.args in
      ChoicesOf a.l a.y.now a.heavy a.z.now a.j a.b a.left a.one c.list_share-end.new.choices a.t c.list_share-end.result
      (λ next vs. (next a.b ≤ a.left) × (a.left < next a.b + (c.loop-a.a + 1)))
  listed =
      let e = c.list_share-end.ensures in
      listed_then (kept-listed e.0.0 (omega arith) c.loop-a.invariant.listed) e.1
      (λ numbers row vs own next is x r.
      ⊎_elim (λ u. inl (r.0, u)) (λ u. inr (omega (arith, r, u))) (lt_or_ge c.args.left (next c.args.b + c.loop-a.a)))

pub loop-a-preserved : goal.loop-a-preserved
loop-a-preserved c =
    let e = c.list_share-end.ensures in
    let s = (goal.at.loop-a-preserved c).After-list_share-end in
    record {
      keeps = keeps s;
      low = omega (arith, c.loop-a.invariant.low, e.1.order);
      most = most s;
      few = λ h. omega (arith, e.0.1.0, c.loop-a.invariant.few (omega arith), below_next c.loop-a.a);
      listed = listed s;
    }

pub returns-2 : goal.returns-2
returns-2 c =
    let s = (goal.at.returns-2 c).After-list_share-end in (
      (keeps s, most s),
      listed_weaken (listed s) (λ numbers row vs own next is x r. (r, omega (arith, r))),
    )
