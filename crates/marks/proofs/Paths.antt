-- The loss states that a row comes through, the chunks along them that are others than another row's, and the marks of
-- its states. Assumes nothing.
use Prim.Native.Nat.{ℕ, zero, suc, ◌+◌, ◌-◌, ◌*◌, ◌<◌, ◌≤◌}
use mathlib.Core.Path.{◌≡◌, refl, sym, ap, ◌∙◌}
use mathlib.Core.Logic.{inl}
use mathlib.Core.List.{List}
use native.Mathlib.Decide.{ℕ_discrete}
use native.Mathlib.Nat.{mul_comm, mul-le-mul_right}
use native.Mathlib.Numerals.{add-one}
use native.Mathlib.Omega.{arith}
use lib.ListN.{length, get_or, drop}
use Rattle.bits.specs.Bits.{digits}
use Rattle.message.specs.declared.Layout.{Layout}
use Rattle.consistent.specs.Greedy.{losses}
use Rattle.states.specs.States.{stride, state, each, state_of}
use Rattle.states.specs.declared.Shape.{Shape}
use Rattle.states.proofs.States.{state-none}
use Rattle.column.specs.Column.{Crosses, chunk_at, apart_in}
use Rattle.column.specs.declared.Heavy.{Heavy}
use Rattle.marks.specs.Marks.{mark_at, Path, apart_before, apart_from, Through, Kept, Remade}
use Rattle.marks.specs.Digits.{Within}
use Rattle.marks.proofs.Marks.{other-column}
use Rattle.marks.proofs.Digits.{number-low}

module _ (l : Layout) (y numbers : List ℕ) (heavy : Heavy) (row : List ℕ) (j : ℕ) (vs : List ℕ) where
  -- states with the same losses left cross a column alike
  pub crosses-same : (left left' next next' : ℕ → ℕ) → ((s : ℕ) → s < heavy.n → left s ≡ left' s)
      → ((s : ℕ) → s < heavy.n → next s ≡ next' s)
      → Crosses l y numbers heavy row j left next vs → Crosses l y numbers heavy row j left' next' vs
  crosses-same left left' next next' a b c =
      record {
        falls = λ s h. omega (arith, a s h, b s h, c.falls s h);
        few = λ s h. omega (arith, a s h, b s h, c.few s h);
        starts = λ s h. omega (arith, a s h, c.starts s h);
        there = λ s h. omega (arith, a s h, b s h, c.there s h);
        small = c.small;
        loses = λ s h.
            let piece = digits l.nc (get_or vs (chunk_at l heavy j s) 0) in
            ap (λ (v : ℕ). losses piece (drop (chunk_at l heavy j s * l.nc + v - get_or heavy.end s 0) y)) (sym (a s
            h))
            ∙ c.loses s h ∙ omega (arith, a s h, b s h);
        others = c.others;
        has_sum = c.has_sum;
      }

-- the state with all losses left is the last
state-full : (size left : ℕ → ℕ) (n : ℕ) → ((t : ℕ) → t < n → left t ≡ size t) → state size left n + 1 ≡ stride size n
unfolding state stride
state-full size left zero h = refl
state-full size left (suc n) h =
    omega (
      arith,
      state-full size left n (λ t k. h t (omega arith)),
      ap (λ (v : ℕ). v * stride size n) (h n (omega arith)),
      mul_comm (stride size n) (size n),
    )

-- the chunks that are others than in z, in one column more
pub before-next : (l : Layout) (heavy : Heavy) (z vs : List ℕ) (j : ℕ)
    → apart_before l heavy z vs (j + 1) ≡ apart_before l heavy z vs j + apart_in l heavy z vs j heavy.n
unfolding apart_before
before-next l heavy z vs j = rw (add-one j) refl

pub before-none : (l : Layout) (heavy : Heavy) (z vs : List ℕ) → apart_before l heavy z vs 0 ≡ 0
unfolding apart_before
before-none l heavy z vs = refl

before_up : (l : Layout) (heavy : Heavy) (z vs : List ℕ) (j k : ℕ)
    → apart_before l heavy z vs j ≤ apart_before l heavy z vs (j + k)
unfolding apart_before
before_up l heavy z vs j zero = let e : j + 0 ≡ j = omega arith in rw e (omega arith)
before_up l heavy z vs j (suc k) =
    let e : j + suc k ≡ suc (j + k) = omega arith in
    rw e (omega (arith, before_up l heavy z vs j k))

-- from a column on they are those of the column itself and those after it
pub apart_next : (l : Layout) (heavy : Heavy) (z vs : List ℕ) (j : ℕ) → j < l.l2
    → apart_from l heavy z vs j ≡ apart_in l heavy z vs j heavy.n + apart_from l heavy z vs (j + 1)
apart_next l heavy z vs j h =
    let e : j + 1 + (l.l2 - (j + 1)) ≡ l.l2 = omega arith in
    omega (arith, before-next l heavy z vs j, rw e at (before_up l heavy z vs (j + 1) (l.l2 - (j + 1))))

-- a row never has more left than at first
pub path-most : {l : Layout} {y numbers : List ℕ} {heavy : Heavy} {row : List ℕ} {size : ℕ → ℕ} {vs : List ℕ}
    {own : ℕ → ℕ → ℕ}
    → Path l y numbers heavy row size vs own → (j s : ℕ) → j ≤ l.l2 → s < heavy.n → own j s ≤ size s
path-most path zero s h k = omega (arith, path.starts s k)
path-most path (suc j) s h k =
    let e : j + 1 ≡ suc j = omega arith in
    omega (arith, path-most path j s (omega arith) k, rw e at ((path.crosses j (omega arith)).falls s k))

-- the marks of the states own in every column
abbrev pub Lets : Layout → Shape → (marks : List ℕ) (own : ℕ → ℕ → ℕ) → Type 0
Lets l shape marks own = (i : ℕ) → i ≤ l.l2 → 0 < get_or marks (mark_at shape i (own i)) 0

module _ (l : Layout) (y numbers : List ℕ) (heavy : Heavy) (row : List ℕ) (shape : Shape) (vs : List ℕ)
    (own : ℕ → ℕ → ℕ) (kept : Kept heavy shape) (path : Path l y numbers heavy row (each shape.size) vs own) where
  pub own-within : (j : ℕ) → j ≤ l.l2 → Within shape (own j)
  own-within j h s k = path-most path j s h (omega (arith, kept.blocks))

  pub own-low : (j : ℕ) → j ≤ l.l2 → state_of shape (own j) < shape.states
  own-low j h = number-low kept (own j) (own-within j h)

  -- the first state is the last of all, the last one is that with nothing left
  pub own_first : state_of shape (own 0) + 1 ≡ shape.states
  own_first =
      state-full (each shape.size) (own 0) shape.n (λ s k. path.starts s (omega (arith, kept.blocks)))
      ∙ sym kept.shaped.all

  pub own-last : state_of shape (own l.l2) ≡ 0
  own-last =
      state-none (each shape.size) (own l.l2) shape.n (λ s k. path.ends s (omega (arith, kept.blocks)))

  -- the marks of the states own stand in a slice that has room for all columns
  own-place : (marks : List ℕ) → (l.l2 + 1) * shape.states ≤ length marks → (i : ℕ) → i ≤ l.l2
      → mark_at shape i (own i) < length marks
  own-place marks room i h =
      omega (arith, own-low i h, mul-le-mul_right {m = i + 1} {n = l.l2 + 1} shape.states (omega arith))

  pub through_lets : (marks : List ℕ) → (l.l2 + 1) * shape.states ≤ length marks
      → Through l shape marks own (λ i. 0) → Lets l shape marks own
  through_lets marks room t i h = (t i h (own-place marks room i h)).0

  pub lets_through : (marks : List ℕ) → Lets l shape marks own → Through l shape marks own (λ i. 0)
  lets_through marks t i h b = (t i h, inl (t i h))

  -- one state of a column gets a mark: the own one
  pub only_lets : (c at q : ℕ) (entry marks : List ℕ) → at ≡ c * shape.states → Remade shape.states at entry marks
      → 0 < get_or marks (at + q) 0 → state_of shape (own c) ≡ q → Lets l shape entry own → Lets l shape marks own
  only_lets c at q entry marks e r m o t i h = go (ℕ_discrete i c)
    where
      go : Dec (i ≡ c) → 0 < get_or marks (mark_at shape i (own i)) 0
      go (yes d) = rw (d, o, ← e) m
      go (no d) = rw (other-column shape.states c at entry marks e r i (state_of shape (own i)) d (own-low i h)) (t
          i h)
