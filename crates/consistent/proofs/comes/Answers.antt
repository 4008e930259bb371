use Rattle.std.proofs.Common.{List, [], ◌∷◌, ℕ, ◌≡◌, ◌∙◌, refl, sym, ap, length, drop, arith}
use Rattle.consistent.specs.Greedy.{eat}
use Rattle.consistent.proofs.Steps.{comes_is, piece_eaten}
use Rattle.consistent.proofs.comes.Goals as goal

-- where nothing is left, nothing is taken
nothing_eats : (x y : List ℕ) → length x ≡ 0 → eat x y ≡ y
unfolding eat
nothing_eats [] y e = refl
nothing_eats (b ∷ x) y e = absurd (omega (arith, e))

pub overflow_add-at : goal.overflow_add-at
overflow_add-at c =
    let p = c.loop-piece in
    let s = c.in-Some.ensures.steps in
    omega (
      arith,
      (piece_eaten c.in-Some.piece.now c.next.new.self.rest.now c.args.y.now p.at c.piece_taken-at.result p.invariant.within
          c.piece_taken-at.ensures).0,
    )

pub loop-piece-preserved : goal.loop-piece-preserved
loop-piece-preserved c =
    let p = c.loop-piece in
    let s = c.in-Some.ensures.steps in
    let e = piece_eaten c.in-Some.piece.now c.next.new.self.rest.now c.args.y.now p.at c.piece_taken-at.result p.invariant.within
    c.piece_taken-at.ensures in
    record { within = e.0; left = e.1 ∙ ap (λ (t : List ℕ). eat t (drop p.at c.args.y.now)) (sym s.1.0) ∙ p.invariant.left }

pub returns : goal.returns
returns c =
    let p = c.loop-piece in
    let s = c.in-None.ensures.steps in
    comes_is c.args.x.now c.args.y.now p.at p.invariant.within
    (sym p.invariant.left ∙ nothing_eats p.piece-iterator.rest.now (drop p.at c.args.y.now) s.1.0)
