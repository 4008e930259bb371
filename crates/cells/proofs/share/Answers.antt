use Rattle.std.proofs.Common.{ℕ, List, [], ◌∷◌, ◌≡◌, ◌⊎◌, inl, inr, length, refl, arith}
use borrow.Author.Tests.{eq-eqb, ne_eqb}
use Rattle.cells.specs.Cells.{share}
use Rattle.cells.proofs.share.Goals as goal

share-none : (keys lost : List ℕ) (key : ℕ) → (length keys ≡ 0) ⊎ (length lost ≡ 0) → share keys lost key ≡ 0
unfolding share
share-none [] lost key h = refl
share-none (k ∷ keys) [] key h = refl
share-none (k ∷ keys) (a ∷ lost) key (inl e) = absurd (omega arith)
share-none (k ∷ keys) (a ∷ lost) key (inr e) = absurd (omega arith)

pub loop-k-preserved-then-k-key : goal.loop-k-preserved-then-k-key
unfolding share
loop-k-preserved-then-k-key c =
    let i = c.loop-k.invariant in
    let s = c.in-Some.ensures.steps in
    let counted = rw (s.0, s.1, eq-eqb c.in-Some.k.now c.args.key c.if-k-key.true) at i.counted in
    let small = rw s.0 at i.small in
    record { small = omega (arith, small, c.from-total.ensures); counted = omega (arith, counted, c.from-total.ensures) }

pub loop-k-preserved : goal.loop-k-preserved
unfolding share
loop-k-preserved c =
    let i = c.loop-k.invariant in
    let s = c.in-Some.ensures.steps in
    let counted = rw (s.0, s.1, ne_eqb c.in-Some.k.now c.args.key c.if-k-key.false) at i.counted in
    let small = rw s.0 at i.small in
    record { small = omega (arith, small); counted = omega (arith, counted) }

pub returns : goal.returns
returns c =
    let keys = c.loop-k.k-iterator.a.rest.now in
    let lost = c.loop-k.k-iterator.b.rest.now in
    let none : share keys lost c.args.key ≡ 0 = elim c.in-None.ensures.steps [
      | inl e ↦ share-none keys lost c.args.key (inl e.1.0)
      | inr e ↦ share-none keys lost c.args.key (inr e.1.0)
    ] in
    omega (arith, c.loop-k.invariant.counted, none)
