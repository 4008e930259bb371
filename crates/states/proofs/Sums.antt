-- Sums over the first blocks, and what the values of the blocks add up to in each state: how the sums grow by an entry, by
-- a number of losses left and by a block. Assumes nothing.
use Prim.Native.Nat.{ℕ, zero, suc, ◌+◌, ◌*◌, ◌<◌, ◌≤◌}
use mathlib.Core.Path.{◌≡◌, refl, sym, ap, ◌∙◌}
use mathlib.Core.Logic.{◌⊎◌, inl, inr}
use mathlib.Core.List.{List}
use native.Mathlib.Decide.{ℕ_discrete}
use native.Mathlib.Nat.{mul-le-mul_right}
use native.Mathlib.Numerals.{add-one}
use native.Mathlib.Omega.{arith}
use lib.ListN.{get_or}
use Rattle.states.specs.declared.Shape.{Shape}
use Rattle.states.specs.States.{stride, state, each, lefts, firsts, entry_at, added_up, Valued, Raised, WithBlock}
use Rattle.states.proofs.States.{state-low, state_of_is, digits_of, digits-most}

-- ---- sums over the first blocks
-- of what is the same in each
pub firsts_same : (f g : ℕ → ℕ) (n : ℕ) → ((s : ℕ) → s < n → f s ≡ g s) → firsts f n ≡ firsts g n
unfolding firsts
firsts_same f g zero h = refl
firsts_same f g (suc n) h = omega (arith, firsts_same f g n (λ s k. h s (omega arith)), h n (omega arith))

-- of what is the same in each but one
pub firsts_but : (f g : ℕ → ℕ) (n s : ℕ) → s < n → ((t : ℕ) → t < n → (t ≡ s → ⊥) → f t ≡ g t)
    → firsts f n + g s ≡ firsts g n + f s
unfolding firsts
firsts_but f g zero s k h = absurd (omega arith)
firsts_but f g (suc n) s k h = go (ℕ_discrete s n) (λ i. firsts_but f g n s i (λ t i d. h t (omega arith) d))
  where
    go : Dec (s ≡ n) → (s < n → firsts f n + g s ≡ firsts g n + f s) → firsts f n + f n + g s ≡ firsts g n + g n + f s
    go (yes e) before = rw e (omega (arith, firsts_same f g n (λ t i. h t (omega arith) (λ d. omega (arith, d, e)))))
    go (no e) before = omega (arith, before (omega arith), h n (omega arith) (λ d. e (sym d)))

-- each is no more than all together
pub firsts-one : (f : ℕ → ℕ) (n s : ℕ) → s < n → f s ≤ firsts f n
unfolding firsts
firsts-one f zero s k = absurd (omega arith)
firsts-one f (suc n) s k = go (ℕ_discrete s n) (firsts-one f n s)
  where
    go : Dec (s ≡ n) → (s < n → f s ≤ firsts f n) → f s ≤ firsts f n + f n
    go (yes e) before = rw e (omega arith)
    go (no e) before = omega (arith, before (omega arith))

-- ---- a number of losses left more of a block, from all of its losses down
-- it is put for the numbers from d on, and the sums for those below stand as they did
pub record DownTo (d len size at : ℕ) (values entry exit : List ℕ) : Type 0 where
  pub put : (e p : ℕ) → d ≤ e → e ≤ size → p < len → get_or exit (e * len + p) 0 ≡ get_or entry p 0 + get_or values (at + e) 0
  pub below : (i : ℕ) → i < d * len → get_or exit i 0 ≡ get_or entry i 0

-- there is room for each of them, at the place of the sums themselves or behind them
pub down_room : (len size d room : ℕ) → len * (size + 1) ≤ room → d ≤ size → d * len + len ≤ room
down_room len size d room h k = omega (arith, mul-le-mul_right {m = d + 1} {n = size + 1} len (omega arith))

pub down_apart : (len d : ℕ) → (d * len ≡ 0) ⊎ (len ≤ d * len)
down_apart len zero = inl (omega arith)
down_apart len (suc d) = inr (omega arith)

module _ (len size at : ℕ) (values xs : List ℕ) where
  pub down_none : DownTo (size + 1) len size at values xs xs
  down_none = record { put = λ e p h k l. absurd (omega arith); below = λ i h. refl }

  pub down_all : (ys : List ℕ) → DownTo 0 len size at values xs ys → WithBlock len size at values xs ys
  down_all ys down = record { put = λ e p h k. down.put e p (omega arith) h k }

  module _ (d : ℕ) (ys : List ℕ) (down : DownTo (d + 1) len size at values xs ys) where
    -- the sums to be put stand as they did
    pub own : (p : ℕ) → p < len → get_or ys p 0 ≡ get_or xs p 0
    own p h = down.below p (omega (arith, mul-le-mul_right {m = 1} {n = d + 1} len (omega arith)))

    pub down_more : (zs : List ℕ) → Raised (d * len) len (get_or values (at + d) 0) ys zs
        → DownTo d len size at values xs zs
    down_more zs raised = record {
      put = λ e p h k l. put e p h k l (ℕ_discrete e d);
      below = λ i h. raised.below i h ∙ down.below i (omega (arith, next));
    }
      where
        next : (d + 1) * len ≡ d * len + len
        next = omega arith

        put : (e p : ℕ) → d ≤ e → e ≤ size → p < len → Dec (e ≡ d)
            → get_or zs (e * len + p) 0 ≡ get_or xs p 0 + get_or values (at + e) 0
        put e p h k l (yes q) =
            rw q (raised.put p l ∙ ap (λ (u : ℕ). u + get_or values (at + d) 0) (own p l))
        put e p h k l (no n) =
            let up : (d + 1) * len ≤ e * len = mul-le-mul_right len (omega arith) in
            raised.behind (e * len + p) (omega (arith, up, next)) ∙ down.put e p (omega arith) k l

-- ---- a block more
module _ (shape : Shape) (values : List ℕ) where
  -- what the values of the first n blocks add up to stands at the number of each state of them
  abbrev pub Sums : (n : ℕ) (sums : List ℕ) → Type 0
  Sums n sums = (left : ℕ → ℕ) → ((t : ℕ) → t < n → left t ≤ each shape.size t)
      → get_or sums (state (each shape.size) left n) 0 ≡ added_up values left n

  pub sums_none : (sums : List ℕ) → get_or sums 0 0 ≡ 0 → Sums 0 sums
  unfolding state firsts
  sums_none sums z left h = z

  pub sums-more : (n : ℕ) (xs ys : List ℕ) → Sums n xs
      → WithBlock (stride (each shape.size) n) (each shape.size n) (n * lefts) values xs ys
      → Sums (n + 1) ys
  unfolding state firsts
  sums-more n xs ys sums block left h =
      let size = each shape.size in
      let low = state-low size left n (λ t l. h t (omega arith)) in
      let q : ℕ = state size left n in
      let turn : q + left n * stride size n ≡ left n * stride size n + q = omega arith in
      rw (add-one n)
      (ap (λ (i : ℕ). get_or ys i 0) turn ∙ block.put (left n) q (h n (omega arith)) low
      ∙ ap (λ (u : ℕ). u + get_or values (entry_at n (left n)) 0) (sums left (λ t l. h t (omega arith))))

  module _ (valued : Valued shape values) where
    -- no sum is greater than a thousand a block
    added-low : (left : ℕ → ℕ) (n : ℕ) → n ≤ shape.n → ((t : ℕ) → t < n → left t ≤ each shape.size t)
        → added_up values left n ≤ 1000 * n
    unfolding firsts
    added-low left zero k h = omega arith
    added-low left (suc n) k h =
        omega (
          arith,
          added-low left n (omega arith) (λ t l. h t (omega arith)),
          valued.small n (left n) (omega arith) (h n (omega arith)),
        )

    -- at whatever entry it stands: each is the number of a state
    pub sums-low : (n : ℕ) → n ≤ shape.n → (sums : List ℕ) → Sums n sums
        → (p : ℕ) → p < stride (each shape.size) n → get_or sums p 0 ≤ 1000 * n
    sums-low n k sums is p l =
        let size = each shape.size in
        let left = digits_of size p in
        let within : (t : ℕ) → t < n → left t ≤ size t = λ t h. digits-most size p t in
        let e : get_or sums p 0 ≡ added_up values left n =
        ap (λ (i : ℕ). get_or sums i 0) (sym (state_of_is size p n l)) ∙ is left within in
        omega (arith, e, added-low left n k within)
