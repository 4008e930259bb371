-- `sums::other_sums` meets its contract. Assumes nothing.
use Rattle.std.proofs.Common.{◌≡◌, ℕ, List, ◌+◌, ◌*◌, ◌≤◌, cond, refl, ap, subst, ◌∙◌, get_or, arith, add-one, eq-eqb, ne_eqb, eqb}
use Rattle.std.proofs.Math.Nat.{mul-le-mul_right, mod-eq_of_lt, add-zero}
use Rattle.bits.specs.Bits.{digits}
use Rattle.vt.specs.Sum.{total}
use Rattle.message.proofs.Legal.{legal_bounds}
use Rattle.residues.specs.Residues.{Has}
use Rattle.states.specs.States.{firsts}
use Rattle.sums.specs.Sums.{others_bring}
use Rattle.sums.proofs.other_sums.Goals as goal
use Rattle.sums.proofs.other_sums.Goals.{else-b-s, then-b-s}

-- what the first chunks bring: none nothing, and one chunk more what it brings unless it is that of block s
module _ (nc : ℕ) (block : List ℕ) (vs : ℕ → ℕ) (s : ℕ) where
  others-none : others_bring nc block vs s 0 ≡ 0
  unfolding firsts
  others-none = refl

  others-next : (b : ℕ) → others_bring nc block vs s (b + 1)
      ≡ others_bring nc block vs s b + cond (eqb b s) 0 (total (get_or block b 0 * nc + 1) (digits nc (vs b)))
  unfolding firsts
  others-next b = rw (add-one b) refl

  others_same : (b : ℕ) → b ≡ s → others_bring nc block vs s (b + 1) ≡ others_bring nc block vs s b
  others_same b e =
      others-next b
      ∙ ap (λ v. others_bring nc block vs s b + cond v 0 (total (get_or block b 0 * nc + 1) (digits nc (vs b))))
      (eq-eqb b s e)
      ∙ add-zero _

  others-more : (b : ℕ) → (b ≡ s → ⊥) → others_bring nc block vs s (b + 1)
      ≡ others_bring nc block vs s b + total (get_or block b 0 * nc + 1) (digits nc (vs b))
  others-more b d =
      others-next b
      ∙ ap (λ v. others_bring nc block vs s b + cond v 0 (total (get_or block b 0 * nc + 1) (digits nc (vs b))))
      (ne_eqb b s d)

pub loop-b-init : goal.loop-b-init
loop-b-init c vs small among =
    let a = c.args in
    rw (others-none a.l.nc a.block vs a.s, add-zero a.known)
    (c.only-r.ensures (a.l.l1 * a.l.nc + 1) a.known (mod-eq_of_lt small))

pub with_each-r-requires : goal.with_each-r-requires
with_each-r-requires c =
    let l = c.args.l in
    let string = c.requires.0.1.strings in
    let inside = c.requires.1.0.1 c.loop-b.b c.loop-b-test.true in
    let low : c.from.result * l.nc ≤ l.l1 * l.nc = mul-le-mul_right l.nc (omega (arith, c.from.ensures, inside)) in (
      (
        (legal_bounds l c.requires.0.0).nc_high,
        ((omega arith, omega (arith, string)), (omega arith, omega (arith, low, string))),
      ),
      c.requires.1.1.0 c.loop-b.b c.loop-b-test.true,
    )

pub loop-b-preserved : goal.loop-b-preserved
loop-b-preserved c vs small among =
    let p = c.loop-b in
    let a = c.args in
    let m = a.l.l1 * a.l.nc + 1 in
    let earlier = p.invariant vs small (λ t h d. among t (omega arith) d) in
    elim c.if-b-s.branch [
      | then-b-s w ↦ let brings = others_bring a.l.nc a.block vs a.s p.b in
          let own : total (w.from.result * a.l.nc + 1) (digits a.l.nc (vs p.b))
          ≡ total (get_or a.block p.b 0 * a.l.nc + 1) (digits a.l.nc (vs p.b)) =
          ap (λ (n : ℕ). total (n * a.l.nc + 1) (digits a.l.nc (vs p.b))) w.from.ensures in
          let all : a.known + brings + total (w.from.result * a.l.nc + 1) (digits a.l.nc (vs p.b))
          ≡ a.known + others_bring a.l.nc a.block vs a.s (p.b + 1) =
          omega (arith, own, others-more a.l.nc a.block vs a.s p.b w.if-b-s.true) in
          rw w.r-is
          (subst (λ (n : ℕ). Has m w.with_each-r.result n) all
          (w.with_each-r.ensures (vs p.b) (a.known + brings) (among p.b (omega arith) w.if-b-s.true) earlier))
      | else-b-s w ↦ rw (w.r-is, others_same a.l.nc a.block vs a.s p.b w.if-b-s.false) earlier
    ]

pub returns : goal.returns
returns c vs small among =
    let p = c.loop-b in
    let a = c.args in
    let end : p.b ≡ a.n = omega arith in
    subst (λ (k : ℕ). Has (a.l.l1 * a.l.nc + 1) p.r (a.known + others_bring a.l.nc a.block vs a.s k)) end
    (p.invariant vs small (λ t h d. among t (omega (arith, h, end)) d))
