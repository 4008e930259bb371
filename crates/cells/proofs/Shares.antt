-- The losses that cells of one block or column share. Assumes nothing.
use Prim.Native.Nat.{ℕ, zero, suc, ◌+◌, ◌<◌, ◌≤◌}
use mathlib.Core.Path.{◌≡◌, refl, ap}
use mathlib.Core.Bool.{Bool, true, false, cond}
use mathlib.Core.List.{List, [], ◌∷◌}
use native.Mathlib.Omega.{arith}
use borrow.Author.Tests.{eq-eqb, eqb-true}
use lib.Dec.{eqb}
use lib.ListN.{length, get_or, set}
use Rattle.consistent.specs.Greedy.{in_all}
use Rattle.cells.specs.Cells.{share, NoSingle, SingleAt}

-- ---- a key and its cells
-- a cell has no more losses than its key
pub share-most : (keys lost : List ℕ) (key z : ℕ) → z < length keys → get_or keys z 0 ≡ key
    → get_or lost z 0 ≤ share keys lost key
unfolding share
share-most [] lost key z h e = absurd (omega arith)
share-most (k ∷ keys) [] key z h e = omega arith
share-most (k ∷ keys) (a ∷ lost) key zero h e = rw (eq-eqb k key e) (omega arith)
share-most (k ∷ keys) (a ∷ lost) key (suc z) h e = omega (arith, share-most keys lost key z (omega arith) e)

-- two cells of one key share its losses
pub share_two : (keys lost : List ℕ) (key z w : ℕ) → z < length keys → w < length keys → (z ≡ w → ⊥) → get_or keys z 0 ≡ key
    → get_or keys w 0 ≡ key → get_or lost z 0 + get_or lost w 0 ≤ share keys lost key
unfolding share
share_two [] lost key z w h g n e f = absurd (omega arith)
share_two (k ∷ keys) [] key z w h g n e f = omega arith
share_two (k ∷ keys) (a ∷ lost) key zero zero h g n e f = absurd (n refl)
share_two (k ∷ keys) (a ∷ lost) key zero (suc w) h g n e f =
    rw (eq-eqb k key e) (omega (arith, share-most keys lost key w (omega arith) f))
share_two (k ∷ keys) (a ∷ lost) key (suc z) zero h g n e f =
    rw (eq-eqb k key f) (omega (arith, share-most keys lost key z (omega arith) e))
share_two (k ∷ keys) (a ∷ lost) key (suc z) (suc w) h g n e f =
    omega (arith, share_two keys lost key z w (omega arith) (omega arith) (λ p. n (ap suc p)) e f)

-- where a key has losses, one of its cells has
pub share-some : (keys lost : List ℕ) (key : ℕ) → 0 < share keys lost key
    → (z : ℕ) × ((z < length keys) × ((get_or keys z 0 ≡ key) × (0 < get_or lost z 0)))
unfolding share
share-some [] lost key h = absurd (omega arith)
share-some (k ∷ keys) [] key h = absurd (omega arith)
share-some (k ∷ keys) (a ∷ lost) key h = go (eqb k key) refl h (share-some keys lost key)
  where
    Some : Type 0
    Some = (z : ℕ) × ((z < suc (length keys)) × ((get_or (k ∷ keys) z 0 ≡ key) × (0 < get_or (a ∷ lost) z 0)))

    Later : Type 0
    Later = (z : ℕ) × ((z < length keys) × ((get_or keys z 0 ≡ key) × (0 < get_or lost z 0)))

    later : Later → Some
    later q = (suc q.0, (omega (arith, q.1.0), (q.1.1.0, q.1.1.1)))

    first : (n : ℕ) → a ≡ n → k ≡ key → 0 < n + share keys lost key → (0 < share keys lost key → Later) → Some
    first zero p e g i = later (i (omega arith))
    first (suc n) p e g i = (0, (omega arith, (e, omega arith)))

    go : (t : Bool) → eqb k key ≡ t → 0 < cond t a 0 + share keys lost key → (0 < share keys lost key → Later) → Some
    go true e g i = first a refl (eqb-true k key e) g i
    go false e g i = later (i (omega arith))

-- what a key has lost when a cell is found
pub share-found : (keys lost : List ℕ) (key z : ℕ) → z < length keys
    → share keys (set lost z 0) key + cond (eqb (get_or keys z 0) key) (get_or lost z 0) 0 ≡ share keys lost key
unfolding share
share-found [] lost key z h = absurd (omega arith)
share-found (k ∷ keys) [] key z h = go (eqb (get_or (k ∷ keys) z 0) key)
  where
    go : (t : Bool) → 0 + cond t 0 0 ≡ 0
    go true = refl
    go false = refl
share-found (k ∷ keys) (a ∷ lost) key zero h = go (eqb k key)
  where
    go : (t : Bool) → cond t 0 0 + share keys lost key + cond t a 0 ≡ cond t a 0 + share keys lost key
    go true = omega arith
    go false = omega arith
share-found (k ∷ keys) (a ∷ lost) key (suc z) h = omega (arith, share-found keys lost key z (omega arith))

module _ (keys lost : List ℕ) (key : ℕ) where
  -- a key without losses has no cell that is to be found
  pub share-none : share keys lost key ≡ 0 → (z : ℕ) → z < length keys → get_or keys z 0 ≡ key → get_or lost z 0 ≡ 0
  share-none s z h e = omega (arith, share-most keys lost key z h e)

  -- a key with one loss has it in one cell
  pub share-one : share keys lost key ≡ 1 → (z : ℕ) → z < length keys → get_or keys z 0 ≡ key → 0 < get_or lost z 0
      → (get_or lost z 0 ≡ 1) × ((w : ℕ) → w < length keys → (w ≡ z → ⊥) → get_or keys w 0 ≡ key → get_or lost w 0 ≡ 0)
  share-one s z h e p =
      (omega (arith, share-most keys lost key z h e), λ w g n f. omega (arith, share_two keys lost key w z g h n f e))

  -- and there is that cell
  pub share_single : share keys lost key ≡ 1
      → (z : ℕ) × ((z < length keys) × ((get_or keys z 0 ≡ key) × (get_or lost z 0 ≡ 1)))
  share_single s =
      let q = share-some keys lost key (omega arith) in
      (q.0, (q.1.0, (q.1.1.0, (share-one s q.0 q.1.0 q.1.1.0 q.1.1.1).0)))

-- where no cell is the only loss of its key, no key has one loss
pub none_single : (keys lost : List ℕ) → ((z : ℕ) → z < length keys → SingleAt keys lost z → ⊥) → NoSingle keys lost
none_single keys lost n key s =
    let q = share_single keys lost key s in
    n q.0 q.1.0 (record { one = q.1.1.1; alone = rw q.1.1.0 s })

-- the losses that are still open fall by those of a cell that is found
pub all_found : (lost : List ℕ) (z : ℕ) → in_all (set lost z 0) + get_or lost z 0 ≡ in_all lost
unfolding in_all
all_found [] z = refl
all_found (a ∷ lost) zero = omega arith
all_found (a ∷ lost) (suc z) = omega (arith, all_found lost z)
