-- The first marks of one column, made state by state: a state is marked if a row can cross the column from it to a
-- marked state. Assumes nothing.
use Rattle.std.proofs.Common.{ℕ, ◌+◌, ◌-◌, ◌*◌, ◌<◌, ◌≤◌, ◌≡◌, refl, ◌∙◌, inr, ⊎_elim, List, arith, length, get_or, set, length-set, get_or-set_same, get_or-set_other}
use Rattle.std.proofs.Math.Decide.{ℕ_discrete}
use Rattle.message.specs.declared.Layout.{Layout}
use Rattle.states.specs.States.{most_states, stride, each, state_of}
use Rattle.states.specs.declared.Shape.{Shape}
use Rattle.states.proofs.States.{stride_pos, state-same, state_lowered}
use Rattle.column.specs.Column.{Light}
use Rattle.column.specs.declared.Heavy.{Heavy}
use Rattle.marks.specs.Marks.{mark_at, Path, Kept, Remade}
use Rattle.marks.specs.Digits.{Within}
use Rattle.marks.proofs.Marks.{remade_set, other-column}
use Rattle.marks.proofs.Paths.{crosses-same, own-within, own-low, own-last}
use Rattle.first.specs.First.{Goes, FirstMark}
use Rattle.first.proofs.Levels.{Above, Levels, level_or, levels_next}

-- of a row, that it is not near is known of the states wide
module _ (l : Layout) (y numbers : List ℕ) (heavy : Heavy) (known : List ℕ) (shape : Shape) (j at base : ℕ) (entry :
    List ℕ) (wide : (ℕ → ℕ) → Type 0) where
  abbrev size : ℕ → ℕ
  size = each shape.size

  -- the marks of the next column
  abbrev next_marks : ℕ → ℕ
  next_marks p = get_or entry (base + p) 0

  -- the states below q have their marks and levels; most is the greatest mark
  pub record Completing (marks levels : List ℕ) (most q : ℕ) : Type 0 where
    pub low : q ≤ shape.states
    pub long : length levels ≡ most_states
    pub column : Remade shape.states at entry marks
    pub levelled : Levels shape.n size next_marks (each levels) q
    pub most_of_is : (p : ℕ) → p < q → get_or marks (at + p) 0 ≤ most
    pub goes : (left : ℕ → ℕ) → Within shape left → wide left → state_of shape left < q
        → Goes l y numbers heavy known shape j entry base left (get_or marks (at + state_of shape left) 0)

  -- what is known of the losses left found, the level v, which is tested as f, and the mark m of state q
  pub record Told (marks levels : List ℕ) (most q : ℕ) (found : ℕ → ℕ) (v f m more : ℕ) : Type 0 where
    pub digits : (own : ℕ → ℕ) → Within shape own → state_of shape own ≡ q → (s : ℕ) → s < heavy.n → own s ≡ found s
    pub own : 0 < get_or marks (base + q) 0 → 0 < v
    pub down : (s u : ℕ) → s < shape.n → 0 < found s → 0 < get_or shape.stride s 0 → get_or shape.stride s 0 ≤ q
        → 0 < u → u < 3 → u ≤ get_or levels (q - get_or shape.stride s 0) 0 → u + 1 ≤ v
    pub tested : (left : ℕ → ℕ) → Within shape left → state_of shape left ≡ q → wide left → f ≡ v
    pub first : FirstMark l y numbers heavy known shape j marks base found q f m
    pub most-more : most ≤ more
    pub mark_more : m ≤ more

  module _ (kept : Kept heavy shape) (apart : at + shape.states ≤ base) (room : base + shape.states ≤ length entry)
      (marks levels : List ℕ) (most q : ℕ) (found : ℕ → ℕ) (v f m more : ℕ) (c : Completing marks levels most q)
      (h : q < shape.states) (told : Told marks levels most q found v f m more) where
    -- the marks of the next column are as at entry
    same_next : (p : ℕ) → get_or marks (base + p) 0 ≡ next_marks p
    same_next p = c.column.others (base + p) (inr (omega arith))

    -- the level is above those one loss below
    above : (left : ℕ → ℕ) → Within shape left → state_of shape left ≡ q → (s : ℕ) → s < shape.n → 0 < left s
        → Above (each levels (q - stride size s)) v
    above left w e s k p u h₁ h₂ h₃ =
        let t : get_or shape.stride s 0 ≡ stride size s = kept.shaped.counts s k in
        let d = state_lowered size left shape.n s k p in
        let f = told.digits left w e s (omega (arith, kept.blocks)) in
        told.down s u k (omega arith) (omega (arith, stride_pos size s)) (omega arith) h₁ h₂ (rw t h₃)

    -- so state q is marked if a row can cross the column from it to a marked state
    here : (left : ℕ → ℕ) → Within shape left → wide left → state_of shape left ≡ q
        → Goes l y numbers heavy known shape j entry base left m
    here left w u e row vs next light crosses marked =
        let f-is = told.tested left w e u in
        let same = told.digits left w e in
        let crosses' = crosses-same l y numbers heavy row j vs left found next next same (λ s k. refl) crosses in
        let falls : (s : ℕ) → s < shape.n → next s ≤ left s = λ s k. crosses.falls s (omega (arith, kept.blocks)) in
        ⊎_elim (λ a. told.first.high (omega (arith, a, f-is)))
        (⊎_elim
        (λ a. let n : state_of shape next ≡ q = state-same' next left a ∙ e in
        told.first.same row vs next light crosses' (λ s k. a s (omega (arith, kept.blocks)) ∙ same s k)
        (omega (arith, told.own (rw (same_next q) (rw n at marked)), f-is)) (rw (same_next q) (rw n at marked)))
        (λ a. let s = a.0 in
        let t : get_or shape.stride s 0 ≡ stride size s = kept.shaped.counts s a.1.0 in
        let b : s < heavy.n = omega (arith, kept.blocks, a.1.0) in
        told.first.one row vs next s b light crosses'
        (a.1.1.0.0 ∙ same s b, λ i k o. a.1.1.0.1 i (omega (arith, kept.blocks)) o ∙ same i k)
        (omega (arith, t, a.1.1.1.0))
        (omega (
          arith,
          f-is,
          above left w e s a.1.0 (omega (arith, a.1.1.0.0)) 1 (omega arith) (omega arith)
              (c.levelled.own (q - stride size s) (omega (arith, a.1.1.1.0, stride_pos size s))
              (rw a.1.1.1.1 at marked)),
        ))
        (rw t (rw (same_next (q - stride size s)) (rw a.1.1.1.1 at marked)))))
        (level_or shape.n size next_marks (each levels) q c.levelled v left next e w falls marked
        (above left w e))
      where
        state-same' : (a b : ℕ → ℕ) → ((s : ℕ) → s < shape.n → a s ≡ b s) → state_of shape a ≡ state_of shape b
        state-same' a b k = state-same size a b shape.n k

    pub completing_next : Completing (set marks (at + q) m) (set levels q v) more (q + 1)
    completing_next =
        let k : at + q < length marks = omega (arith, c.column.long) in
        let few : q < length levels = omega (arith, c.long, kept.few) in
        let there : get_or (set levels q v) q 0 ≡ v = get_or-set_same levels q v 0 few in
        record {
          low = omega arith;
          long = length-set levels q v ∙ c.long;
          column = remade_set shape.states at entry marks c.column q m h;
          levelled = levels_next shape.n size next_marks (each levels) (each (set levels q v)) q
              (λ p i. get_or-set_other levels q p v 0 (λ e. omega arith)) c.levelled
              (λ i. rw there (told.own (rw (same_next q) i)))
              (λ left w e s i p. rw there (above left w e s i p));
          most_of_is = λ p i. most-at p i (ℕ_discrete p q);
          goes = λ left w u i. goes_at left w u i (ℕ_discrete (state_of shape left) q);
        }
      where
        most-at : (p : ℕ) → p < q + 1 → Dec (p ≡ q) → get_or (set marks (at + q) m) (at + p) 0 ≤ more
        most-at p i (yes e) = rw (e, get_or-set_same marks (at + q) m 0 (omega (arith, c.column.long)))
            told.mark_more
        most-at p i (no e) =
            rw (get_or-set_other marks (at + q) (at + p) m 0 (λ d. e (omega arith)))
            (omega (arith, c.most_of_is p (omega arith), told.most-more))

        goes_at : (left : ℕ → ℕ) → Within shape left → wide left → state_of shape left < q + 1
            → Dec (state_of shape left ≡ q)
            → Goes l y numbers heavy known shape j entry base left (get_or (set marks (at + q) m) (at + state_of shape
            left) 0)
        goes_at left w u i (yes e) =
            rw (e, get_or-set_same marks (at + q) m 0 (omega (arith, c.column.long))) (here left w u e)
        goes_at left w u i (no e) =
            rw (get_or-set_other marks (at + q) (at + state_of shape left) m 0 (λ d. e (omega arith))) (c.goes left w u
            (omega arith))

-- ---- the first marks along the states of a row
module _ (l : Layout) (y numbers : List ℕ) (heavy : Heavy) (row : List ℕ) (shape : Shape) (vs : List ℕ) (own : ℕ → ℕ → ℕ)
    (kept : Kept heavy shape) (path : Path l y numbers heavy row (each shape.size) vs own) where
  within : (j : ℕ) → j ≤ l.l2 → Within shape (own j)
  within = own-within l y numbers heavy row shape vs own kept path

  low-number : (j : ℕ) → j ≤ l.l2 → state_of shape (own j) < shape.states
  low-number = own-low l y numbers heavy row shape vs own kept path

  -- the first marks of one column more
  pub first_next : (known : List ℕ) → Light l heavy row known → (j : ℕ) (entry marks : List ℕ) (wide : (ℕ → ℕ) → Type 0)
      → j < l.l2
      → wide (own j) → Remade shape.states (j * shape.states) entry marks
      → ((left : ℕ → ℕ) → Within shape left → wide left
      → Goes l y numbers heavy known shape j entry ((j + 1) * shape.states) left
      (get_or marks (j * shape.states + state_of shape left) 0))
      → ((i : ℕ) → j + 1 ≤ i → i ≤ l.l2 → 0 < get_or entry (mark_at shape i (own i)) 0)
      → (i : ℕ) → j ≤ i → i ≤ l.l2 → 0 < get_or marks (mark_at shape i (own i)) 0
  first_next known light j entry marks wide hj u r g t i lo hi = go (ℕ_discrete i j)
    where
      go : Dec (i ≡ j) → 0 < get_or marks (mark_at shape i (own i)) 0
      go (yes e) =
          rw e (g (own j) (within j (omega arith)) u row vs (own (j + 1)) light (path.crosses j hj)
          (t (j + 1) (omega arith) (omega arith)))
      go (no n) =
          rw (other-column shape.states j (j * shape.states) entry marks refl r i (state_of shape (own i)) n
          (low-number i hi))
          (t i (omega arith) hi)

  -- the last state has a mark
  pub last_let : (entry marks : List ℕ) → Remade shape.states (l.l2 * shape.states) entry marks → 0 < get_or marks
      (l.l2 * shape.states + 0) 0
      → (i : ℕ) → l.l2 ≤ i → i ≤ l.l2 → 0 < get_or marks (mark_at shape i (own i)) 0
  last_let entry marks r m i lo hi =
      let e : i ≡ l.l2 = omega arith in
      rw (e, own-last l y numbers heavy row shape vs own kept path) m
