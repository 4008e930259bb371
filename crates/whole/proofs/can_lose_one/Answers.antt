-- The chunk is weighed alone, against what the others leave of the sum.
use Rattle.std.proofs.Common.{true, ◌≡◌, ℕ, ◌+◌, ◌*◌, ◌%◌, List, get_or, ap, ◌∙◌, arith}
use Rattle.std.proofs.lemmas.Bool.{not-false}
use Rattle.std.proofs.Math.Nat.{mod-lt, mod-add-mod}
use Rattle.bits.specs.Bits.{digits}
use Rattle.vt.specs.Sum.{total}
use Rattle.message.proofs.Legal.{legal_bounds, string_high}
use Rattle.weigh.specs.Weigh.{brought}
use Rattle.whole.proofs.can_lose_one.Goals as goal

pub can_bring-requires : goal.can_bring-requires
can_bring-requires c =
    let l = c.args.l in
    let p = c.requires.0 in (
      ((legal_bounds l p.allowed).nc_high, (omega arith, omega (arith, string_high l p.allowed))),
      (p.bits, (p.short, (p.tables, (omega arith, c.missing-need.ensures.0)))),
    )

-- what one chunk brings
brought-one : (nc : ℕ) (block : List ℕ) (v : ℕ)
    → brought nc block (λ k. v) 1 ≡ total (get_or block 0 0 * nc + 1) (digits nc v)
unfolding brought
brought-one nc block v = omega arith

pub returns : goal.returns
returns c v small readable loses sum =
    let a = c.args in
    let place = c.place_of-p.ensures in
    let ok : c.place_of-p.result.ok ≡ true = not-false _ c.if-not-p.false in
    let one : c.place_of-p.result.lost ≡ 1 = omega (arith, place.lost_just ok, c.requires.1.0) in
    let b = total (a.block * a.l.nc + 1) (digits a.l.nc v) in
    let modulus = a.l.l1 * a.l.nc + 1 in
    c.can_bring.ensures (λ k. v)
    record {
      small = λ k h. small;
      few = λ k h. let z : k ≡ 0 = omega (arith, h) in rw z (omega (arith, readable.few, c.requires.1.0));
      there = λ k h. let z : k ≡ 0 = omega (arith, h) in rw z (omega (arith, place.within ok, one));
      loses = λ k h. let z : k ≡ 0 = omega (arith, h) in rw (z, place.at_just ok) loses;
    }
    (ap (λ (n : ℕ). n % modulus) (brought-one a.l.nc _ v)
    ∙ c.missing-need.ensures.1 b (mod-lt a.rest (omega arith)) (mod-add-mod a.rest modulus b ∙ sum))
