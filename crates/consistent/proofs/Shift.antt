-- A row's own losses up to a place say where the received row is read from there on: x's bits from place s on are
-- matched against y from place s − d on, where d of the s bits before took nothing. Assumes nothing.
use Prim.Native.Nat.{ℕ, ◌+◌, ◌-◌, ◌≤◌}
use mathlib.Core.Path.{◌≡◌, refl, ap, ◌∙◌}
use mathlib.Core.List.{List}
use native.Mathlib.Omega.{arith}
use lib.ListN.{length, take, drop}
use lib.Seq.{length-take-le, take-add}
use Rattle.consistent.specs.Greedy.{eat, losses}
use Rattle.consistent.proofs.Greedy.{losses-append, losses-most, piece}

module _ (x y : List ℕ) where
  -- the first s bits leave y from place s − d on
  pub eat-at : (s : ℕ) → s ≤ length x → eat (take s x) y ≡ drop (s - losses (take s x) y) y
  eat-at s h = (piece s (losses (take s x) y) (take s x) y (length-take-le s x h) refl).rest

  -- no more bits are lost up to a place than stand before it
  pub lost-most : (s : ℕ) → s ≤ length x → losses (take s x) y ≤ s
  lost-most s h = omega (arith, losses-most (take s x) y, length-take-le s x h)

  -- the losses up to a later place
  pub lost-more : (s w : ℕ) → s ≤ length x
      → losses (take (s + w) x) y ≡ losses (take s x) y + losses (take w (drop s x)) (drop (s - losses (take s x) y) y)
  lost-more s w h =
      ap (λ (t : List ℕ). losses t y) (take-add s w x)
      ∙ losses-append (take s x) (take w (drop s x)) y
      ∙ ap (λ (z : List ℕ). losses (take s x) y + losses (take w (drop s x)) z) (eat-at s h)

  -- a piece of w bits that starts after d losses and ends after d + a loses a, against y from place s − d on
  pub piece_loses : (s w d a : ℕ) → s ≤ length x → losses (take s x) y ≡ d → losses (take (s + w) x) y ≡ d + a
      → losses (take w (drop s x)) (drop (s - d) y) ≡ a
  piece_loses s w d a h e f =
      let m : losses (take (s + w) x) y ≡ d + losses (take w (drop s x)) (drop (s - d) y) = rw e at (lost-more s w h) in
      omega arith
