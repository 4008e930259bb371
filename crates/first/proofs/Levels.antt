-- The levels of the states of one column: how far a state lies above one that is marked in the next column, up to two
-- losses. A state with two losses more than a marked one has the highest level. Assumes nothing.
use Rattle.std.proofs.Common.{ℕ, zero, suc, ◌+◌, ◌-◌, ◌<◌, ◌≤◌, ◌≡◌, sym, ap, ◌⊎◌, inl, inr, ⊎_elim, arith}
use Rattle.std.proofs.Math.Decide.{ℕ_discrete, dec_lt}
use Rattle.states.specs.States.{stride, state}
use Rattle.states.proofs.States.{lowered, lowered_there, lowered_other, stride_pos, state-same, state_lowered}
use Rattle.whole.specs.Whole.{OneLess}

-- each of n blocks has at most its size left
abbrev pub Low : (n : ℕ) (size left : ℕ → ℕ) → Type 0
Low n size left = (s : ℕ) → s < n → left s ≤ size s

-- a level v is above the level low of a state one loss below
abbrev pub Above : (low v : ℕ) → Type 0
Above low v = (u : ℕ) → 0 < u → u < 3 → u ≤ low → u + 1 ≤ v

-- the levels of the states below q
pub record Levels (n : ℕ) (size next level : ℕ → ℕ) (q : ℕ) : Type 0 where
  pub own : (p : ℕ) → p < q → 0 < next p → 0 < level p
  pub down : (left : ℕ → ℕ) → Low n size left → state size left n < q → (s : ℕ) → s < n → 0 < left s
      → Above (level (state size left n - stride size s)) (level (state size left n))

-- of two states, one with as much or less left in each block, they are the same or differ in some block
differs : (n : ℕ) (low high : ℕ → ℕ) → ((s : ℕ) → s < n → low s ≤ high s)
    → ((s : ℕ) × ((s < n) × (low s < high s))) ⊎ ((s : ℕ) → s < n → low s ≡ high s)
differs zero low high h = inr (λ s l. absurd (omega arith))
differs (suc n) low high h = go (dec_lt (low n) (high n)) (differs n low high (λ s l. h s (omega arith)))
  where
    go : Dec (low n < high n) → ((s : ℕ) × ((s < n) × (low s < high s))) ⊎ ((s : ℕ) → s < n → low s ≡ high s)
        → ((s : ℕ) × ((s < suc n) × (low s < high s))) ⊎ ((s : ℕ) → s < suc n → low s ≡ high s)
    go (yes l) r = inl (n, (omega arith, l))
    go (no l) (inl r) = inl (r.0, (omega (arith, r.1.0), r.1.1))
    go (no l) (inr r) = inr (λ s k. last s k (ℕ_discrete s n))
      where
        last : (s : ℕ) → s < suc n → Dec (s ≡ n) → low s ≡ high s
        last s k (yes e) = rw e (omega (arith, h n (omega arith)))
        last s k (no e) = r s (omega arith)

-- one loss less in a block that has more than the lower state
lower_still : (low high : ℕ → ℕ) (s : ℕ) → low s < high s → (t : ℕ) → low t ≤ high t → low t ≤ lowered high s t
lower_still low high s l t h = go (ℕ_discrete t s)
  where
    go : Dec (t ≡ s) → low t ≤ lowered high s t
    go (yes e) = rw (e, lowered_there high s) (omega arith)
    go (no e) = rw (lowered_other high s t e) h

low_lowered : (n : ℕ) (size high : ℕ → ℕ) (s : ℕ) → Low n size high → Low n size (lowered high s)
low_lowered n size high s w t l = go (ℕ_discrete t s)
  where
    go : Dec (t ≡ s) → lowered high s t ≤ size t
    go (yes e) = rw (e, lowered_there high s) (omega (arith, w t l, ap high e, ap size e))
    go (no e) = rw (lowered_other high s t e) (w t l)

module _ (n : ℕ) (size : ℕ → ℕ) where
  -- the number of a state with one loss less
  less : (left : ℕ → ℕ) (s : ℕ) → s < n → 0 < left s
      → (state size left n - stride size s ≡ state size (lowered left s) n) × (state size (lowered left s) n < state
      size left n)
  less left s h p =
      let e = state_lowered size left n s h p in
      let o = stride_pos size s in
      (omega arith, omega arith)

  module _ (next level : ℕ → ℕ) (q : ℕ) (c : Levels n size next level q) where
    -- every state with as much or more left than one that is marked in the next column has a level
    reach : (fuel : ℕ) (low high : ℕ → ℕ) → state size high n < fuel → state size high n < q → Low n size high
        → ((s : ℕ) → s < n → low s ≤ high s) → 0 < next (state size low n) → 0 < level (state size high n)
    reach zero low high f b w h p = absurd (omega arith)
    reach (suc fuel) low high f b w h p =
        ⊎_elim
        (λ r. let s = r.0 in
        let e = less high s r.1.0 (omega (arith, r.1.1)) in
        let still : (t : ℕ) → t < n → low t ≤ lowered high s t = λ t l. lower_still low high s r.1.1 t (h t l) in
        let down = reach fuel low (lowered high s) (omega (arith, e.1)) (omega (arith, e.1)) (low_lowered n size high
        s w) still p in
        omega (
          arith,
          c.down high w b s r.1.0 (omega (arith, r.1.1)) 1 (omega arith) (omega arith) (rw e.0
              down),
        ))
        (λ r. c.own (state size high n) b (rw (state-same size high low n (λ s l. sym (r s l))) p))
        (differs n low high h)

    module _ (v : ℕ) (left after : ℕ → ℕ) (number : state size left n ≡ q) (w : Low n size left)
        (falls : (s : ℕ) → s < n → after s ≤ left s) (marked : 0 < next (state size after n))
        (above : (s : ℕ) → s < n → 0 < left s → Above (level (q - stride size s)) v) where
      -- two losses above a marked state the level is the highest
      two : (s t : ℕ) → s < n → after s < left s → t < n → after t < lowered left s t → 2 < v
      two s t a b d f =
          let e = less left s a (omega arith) in
          let g = less (lowered left s) t d (omega arith) in
          let still : (i : ℕ) → i < n → after i ≤ lowered left s i = λ i l. lower_still after left s b i (falls i l) in
          let again : (i : ℕ) → i < n → after i ≤ lowered (lowered left s) t i =
          λ i l. lower_still after (lowered left s) t f i (still i l)
          in
          let w' = low_lowered n size left s w in
          let one : 0 < level (state size (lowered (lowered left s) t) n) =
          reach (suc (state size (lowered (lowered left s) t) n)) after (lowered (lowered left s) t) (omega arith)
          (omega (arith, e.1, g.1)) (low_lowered n size (lowered left s) t w') again marked
          in
          let second : 2 ≤ level (state size (lowered left s) n) =
          c.down (lowered left s) w' (omega (arith, e.1)) t d (omega arith) 1 (omega arith) (omega arith)
          (rw g.0 (omega arith))
          in
          let k : q - stride size s ≡ state size (lowered left s) n = rw (← number) e.0 in
          omega (arith, above s a (omega arith) 2 (omega arith) (omega arith) (rw k second))

      -- so a state from which a row goes on to a marked one has the highest level, or goes on with no loss or one
      pub level_or : (2 < v) ⊎ (((s : ℕ) → s < n → after s ≡ left s)
          ⊎ ((s : ℕ) × ((s < n) × (OneLess n left after s × ((stride size s ≤ q) × (state size after n ≡ q - stride
          size s))))))
      level_or = ⊎_elim (λ r. inner r (differs n after (lowered left r.0) (still r))) (λ r. inr (inl r)) (differs n
          after left falls)
        where
          still : (r : (s : ℕ) × ((s < n) × (after s < left s))) → (t : ℕ) → t < n → after t ≤ lowered left r.0 t
          still r t l = lower_still after left r.0 r.1.1 t (falls t l)

          inner : (r : (s : ℕ) × ((s < n) × (after s < left s)))
              → ((t : ℕ) × ((t < n) × (after t < lowered left r.0 t))) ⊎ ((t : ℕ) → t < n → after t ≡ lowered left
              r.0 t)
              → (2 < v) ⊎ (((s : ℕ) → s < n → after s ≡ left s)
              ⊎ ((s : ℕ) × ((s < n) × (OneLess n left after s × ((stride size s ≤ q) × (state size after n ≡ q - stride
              size s))))))
          inner r (inl d) = inl (two r.0 d.0 r.1.0 r.1.1 d.1.0 d.1.1)
          inner r (inr d) =
              let s = r.0 in
              let e = state_lowered size left n s r.1.0 (omega (arith, r.1.1)) in
              let f = state-same size after (lowered left s) n d in
              let g : after s ≡ left s - 1 = rw (← lowered_there left s) (d s r.1.0) in
              inr (inr (
                s,
                (
                  r.1.0,
                  (
                    (omega (arith, r.1.1), λ t h o. rw (← lowered_other left s t o) (d t h)),
                    (omega arith, omega arith),
                  ),
                ),
              ))

  -- one level more
  pub levels_next : (next level more : ℕ → ℕ) (q : ℕ) → ((p : ℕ) → p < q → more p ≡ level p) → Levels n size next level
      q
      → (0 < next q → 0 < more q)
      → ((left : ℕ → ℕ) → Low n size left → state size left n ≡ q → (s : ℕ) → s < n → 0 < left s
      → Above (level (q - stride size s)) (more q))
      → Levels n size next more (q + 1)
  levels_next next level more q same c own down =
      record {
        own = λ p h m. ownward p h m (ℕ_discrete p q);
        down = λ left w b s h p. downward left w b s h p (ℕ_discrete (state size left n) q);
      }
    where
      ownward : (p : ℕ) → p < q + 1 → 0 < next p → Dec (p ≡ q) → 0 < more p
      ownward p h m (yes e) = rw e (own (rw e at m))
      ownward p h m (no e) = rw (same p (omega arith)) (c.own p (omega arith) m)

      downward : (left : ℕ → ℕ) → Low n size left → state size left n < q + 1 → (s : ℕ) → s < n → 0 < left s
          → Dec (state size left n ≡ q) → Above (more (state size left n - stride size s)) (more (state size left n))
      downward left w b s h p (yes e) =
          let k = less left s h p in
          rw (same (state size left n - stride size s) (omega (arith, k.0, k.1))) (rw e (down left w e s h p))
      downward left w b s h p (no e) =
          let k = less left s h p in
          rw (same (state size left n - stride size s) (omega (arith, k.0, k.1)))
          (rw (same (state size left n) (omega arith)) (c.down left w (omega arith) s h p))
