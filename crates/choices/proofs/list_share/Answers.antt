-- `choices::list_share` meets its contract. Rests on Listing.antt. Assumes nothing.
use Rattle.std.proofs.Common.{◌≡◌, ℕ, ◌+◌, ◌-◌, ◌*◌, ◌<◌, ◌≤◌, refl, ap, get_or, arith}
use Rattle.std.proofs.Math.Nat.{mul-le-mul, mul-le-mul_right}
use mathlib.Core.Logic.{inl, inr, ⊎_elim}
use Rattle.bits.specs.Bits.{digits}
use Rattle.bits.proofs.Laws.{lt_or_ge}
use Rattle.vt.specs.Ones.{ones}
use Rattle.message.proofs.Legal.{legal_bounds}
use Rattle.weigh.specs.Weigh.{Wider}
use Rattle.weigh.specs.declared.Span.{Span}
use Rattle.column.specs.Column.{value_at}
use Rattle.choices.specs.Choices.{Keeps, ChoicesOf}
use Rattle.choices.proofs.Listing.{chunk_is, keeps_same, keeps_then, kept-listed, listed_then}
use Rattle.choices.proofs.Listing.{listed_weaken, listed-none, listed-one, ones-first, ones-last}
use Rattle.choices.proofs.list_share.Goals as goal
use Rattle.choices.proofs.list_share.Goals.{After-put_choice}

pub other-other-requires : goal.other-other-requires
other-other-requires c =
    let s = c.requires.0.0 in
    ((legal_bounds c.args.l s.allowed).nc_high, ((s.bits, s.short), (s.tables, c.in-Some.ensures.0.there)))

pub loop-g-init : goal.loop-g-init
loop-g-init c =
    let v = c.in-Some.ensures.0 in
    record {
      keeps = keeps_same _ _;
      count = refl;
      top = omega (arith, v.more.low);
      listed = listed-none _ _
          (λ numbers row vs own next e x r. omega (arith, r.1, ones-first x c.requires.1.0 e c.args.a r.0 v));
    }

pub widen-span-requires : goal.widen-span-requires
widen-span-requires c =
    let a = c.args in
    let v = c.in-Some.ensures.0 in
    let lost = c.from-in-loop-g.ensures in
    let nc_high = (legal_bounds a.l c.requires.0.0.allowed).nc_high in
    let keeps : a.l.nc - a.a ≤ 8 = omega (arith, nc_high) in
    let low : c.in-Some.v.seen.total ≤ 64 = omega (arith, v.seen.positions-small, mul-le-mul keeps keeps) in (
      (nc_high, (chunk_is c.requires.0.0 a.b c.from-block.result c.requires.1.0 c.from-block.ensures).in_string),
      (
        (
          omega (arith, v.seen.count_small, v.few, lost),
          (low, omega (arith, c.loop-g-test.true, v.more.few, lost)),
        ),
        (omega arith, omega arith),
      ),
    )

pub put_choice-requires : goal.put_choice-requires
put_choice-requires c =
    let a = c.args in
    let v = c.in-Some.ensures.0 in
    let i = c.loop-g.invariant in
    let n = c.widen-span.ensures in
    let room = c.requires.1.1.1.1 v.few in
    let top : (a.left - a.a) * a.one ≤ a.left * a.one = mul-le-mul_right a.one (omega arith) in
    let same : c.from.result * a.one ≡ (a.left - a.a) * a.one = ap (λ (k : ℕ). k * a.one) c.from.ensures in (
      omega (arith, room, i.keeps.long, i.count, c.loop-g-test.true, v.more.few),
      (omega (arith, top, same, c.requires.1.1.1.0), (n.low_small, n.high_small)),
    )

-- the choices with fewer than g + 1 ones more
module _ (c : After-put_choice) where
  keeps : Keeps c.args.t c.args.choices.now c.put_choice.new.choices
  keeps =
      let i = c.loop-g.invariant in
      keeps_then (omega (arith, i.count)) i.keeps c.put_choice.ensures.0

  listed : let a = c.args in
      ChoicesOf a.l a.y.now a.heavy a.z.now a.j a.b a.left a.one c.put_choice.new.choices a.t (c.loop-g.end + 1)
      (λ next vs. (a.left ≡ next a.b + a.a)
      × (ones (digits a.l.nc (value_at a.l a.heavy vs a.j a.b)) < c.in-Some.v.seen.ones + (c.loop-g.g + 1)))
  listed =
      let a = c.args in
      let v = c.in-Some.ensures.0 in
      let p = c.loop-g in
      let had = c.in-Some.v.seen in
      let none : Span = record { low = 0; high = 0 } in
      let wider : Wider a.l.nc (get_or a.heavy.block a.b 0 * a.l.nc) a.a had p.g none c.widen-span.result =
      rw (c.from-block.ensures, c.from-in-loop-g.ensures) at c.widen-span.ensures in
      let like = rw c.from-block.ensures at c.other-other.ensures.0 in
      let put = c.put_choice.ensures in
      let adds = ap (λ (k : ℕ). k * a.one) c.from.ensures in
      let one = listed-one c.requires.1.0 a.a p.g c.in-Some.v none c.widen-span.result _ c.other-other.result refl refl
      c.requires.1.1.0 v wider like c.other-other.ensures.1 adds put.1 in
      listed_then (kept-listed put.0 (omega arith) p.invariant.listed) one
      (λ numbers row vs own next is x r.
      ⊎_elim (λ u. inl (r.0, u)) (λ u. inr (r.0, omega (arith, r.1, u)))
      (lt_or_ge (ones (digits a.l.nc (value_at a.l a.heavy vs a.j a.b))) (had.ones + p.g)))

pub loop-g-preserved : goal.loop-g-preserved
loop-g-preserved c =
    let s = (goal.at.loop-g-preserved c).After-put_choice in
    record {
      keeps = keeps s;
      count = omega (arith, c.loop-g.invariant.count);
      top = omega (arith, c.loop-g-test.true, c.in-Some.ensures.0.more.few);
      listed = listed s;
    }

pub returns-in-Some : goal.returns-in-Some
returns-in-Some c =
    let v = c.in-Some.ensures.0 in
    let i = c.loop-g.invariant in (
      (i.keeps, (omega (arith, i.count, i.top), λ h. absurd (omega (arith, h, v.few)))),
      listed_weaken i.listed
          (λ numbers row vs own next is x r.
          (r, omega (arith, c.loop-g-test.false, ones-last x c.requires.1.0 is c.args.a r v))),
    )

pub returns-in-Some-2 : goal.returns-in-Some-2
returns-in-Some-2 c =
    let v = c.in-Some.ensures.0 in
    let s = (goal.at.returns-in-Some-2 c).After-put_choice in
    let i = c.loop-g.invariant in (
      (keeps s, (omega (arith, i.count, c.loop-g-test.true, v.more.few), λ h. absurd (omega (arith, h, v.few)))),
      listed_weaken (listed s)
          (λ numbers row vs own next is x r.
          (r, omega (arith, ones-last x c.requires.1.0 is c.args.a r v))),
    )
