-- The steps from a loss state: marks are raised for every pick of one choice for each block, and so for each row's own.
-- Assumes nothing.
use Prim.Native.Nat.{ℕ, zero, suc, ◌+◌, ◌*◌, ◌%◌, ◌<◌, ◌≤◌}
use mathlib.Core.Path.{◌≡◌, refl, sym, subst, ap, ap₂, ◌∙◌}
use mathlib.Core.List.{List}
use mathlib.Core.Logic.{◌⊎◌, inl, inr, ⊎_elim}
use native.Mathlib.Numerals.{add-one}
use native.Mathlib.Omega.{arith}
use borrow.Author.Tests.{ne_eqb}
use lib.Dec.{eqb}
use lib.ListN.{length, get_or, set}
use lib.Seq.{get_or-set_same, get_or-set_other}
use Rattle.bits.proofs.Laws.{lt_or_ge}
use Rattle.message.specs.declared.Layout.{Layout}
use Rattle.states.specs.States.{state, stride, each, firsts}
use Rattle.states.specs.declared.Shape.{Shape}
use Rattle.states.proofs.States.{stride_pos}
use Rattle.weigh.specs.Weigh.{brought}
use Rattle.column.specs.Column.{apart_in}
use Rattle.column.specs.declared.Heavy.{Heavy}
use Rattle.column.proofs.Rows.{one-most}
use Rattle.choices.specs.Choices.{adds_of, least_of, most_of, other_of, Suits, Offers}
use Rattle.steps.specs.Steps.{Above, Raises, one_if, marked_below, Counts, brought_in}
use Rattle.steps.specs.Steps.{added_by, Picks, Ground, Low, Stands, With, Ends, Gains}
use Rattle.steps.specs.declared.Stand.{Stand}

-- ---- marked states are counted
module _ (marks : List ℕ) (at : ℕ) where
  -- no more states are marked than there are
  pub marked-most : (q : ℕ) → marked_below marks at q ≤ q
  unfolding marked_below
  marked-most zero = omega arith
  marked-most (suc q) = omega (arith, marked-most q, one-most (eqb (get_or marks (at + q) 0) 0))

  -- below a higher state no fewer are marked
  marked-rises : (low high : ℕ) → low ≤ high → marked_below marks at low ≤ marked_below marks at high
  unfolding marked_below
  marked-rises low zero h = let e : low ≡ 0 = omega arith in rw e (omega arith)
  marked-rises low (suc high) h =
      ⊎_elim (λ (k : low < suc high). omega (arith, marked-rises low high (omega arith)))
      (λ (k : suc high ≤ low). let e : low ≡ suc high = omega arith in rw e (omega arith))
      (lt_or_ge low (suc high))

  -- a marked state counts
  marked-counts : (q : ℕ) → 0 < get_or marks (at + q) 0 → marked_below marks at q < marked_below marks at (suc q)
  unfolding marked_below
  marked-counts q m = rw (ne_eqb (get_or marks (at + q) 0) 0 (λ e. omega arith)) (omega arith)

  -- where as many states are marked below two states, none between them is
  pub none_between : (states : ℕ) (some : List ℕ) → Counts marks at states some → (low high : ℕ) → high ≤ states
      → get_or some high 0 ≤ get_or some low 0 → (q : ℕ) → low ≤ q → q < high → 0 < get_or marks (at + q) 0 → ⊥
  none_between states some c low high top same q a b m =
      let up = marked-rises (suc q) high (omega arith) in
      omega (arith, c low (omega arith), c high top, marked-rises low q a, marked-counts q m, up)

  -- the counts with those of one state more
  pub counts-next : (q d : ℕ) (some : List ℕ) → q + 1 < length some → d ≡ one_if (get_or marks (at + q) 0)
      → Counts marks at q some → Counts marks at (q + 1) (set some (q + 1) (get_or some q 0 + d))
  unfolding marked_below
  counts-next q d some long own c i h =
      ⊎_elim
      (λ (k : i < q + 1).
      get_or-set_other some (q + 1) i (get_or some q 0 + d) 0 (λ e. omega (arith, e)) ∙ c i (omega arith))
      (λ (k : q + 1 ≤ i).
      let e : i ≡ suc q = omega arith in
      let is = get_or-set_same some (q + 1) (get_or some q 0 + d) 0 long in
      rw (e, ← add-one q) (is ∙ ap₂ ◌+◌ (c q (omega arith)) own))
      (lt_or_ge i (q + 1))

-- ---- marks are raised
-- a mark that is higher is above as much
pub above_more : (there apart a b : ℕ) → a ≤ b → Above there apart a → Above there apart b
above_more there apart a b h u = ⊎_elim (λ k. inl (omega arith)) (λ k. inr (omega arith)) u

pub above-less : (there few more mark : ℕ) → few ≤ more → Above there more mark → Above there few mark
above-less there few more mark h u = ⊎_elim (λ k. inl (omega arith)) (λ k. inr k) u

pub raises_same : (fresh : List ℕ) → Raises fresh fresh
raises_same fresh = record { long = refl; grows = λ i. omega arith }

pub raises_then : {entry mid exit : List ℕ} → Raises entry mid → Raises mid exit → Raises entry exit
raises_then a b =
    record { long = b.long ∙ a.long; grows = λ i. omega (arith, a.grows i, b.grows i) }

-- ---- picks add up
module _ {choices from : List ℕ} {shape : Shape} {modulus need : ℕ} {marks : List ℕ} {at : ℕ} {some fresh : List ℕ}
    (g : Ground choices from shape modulus need marks at some fresh) where
  -- what a sweep reads stays as it is while marks are raised
  pub ground_stays : (new : List ℕ) → length new ≡ length fresh
      → Ground choices from shape modulus need marks at some new
  ground_stays new same =
      record {
        few = g.few;
        shaped = g.shaped;
        states = g.states;
        counted = g.counted;
        long-fresh = omega (arith, g.long-fresh, same);
        below = g.below;
        high = g.high;
        listed = g.listed;
      }

  -- where a sweep stands its numbers are small
  pub stands_low : {s : ℕ} {stand : Stand} → Stands shape s stand → Low stand
  stands_low k =
      record {
        q_low = omega (arith, k.room, g.states);
        least-low = omega (arith, k.least, g.few);
        most-low = omega (arith, k.most, g.few);
        apart_low = omega (arith, k.others, g.few);
      }

  -- and the number that it stands at is that of a state
  pub stands_inside : {s : ℕ} {stand : Stand} → Stands shape s stand → stand.q < shape.states
  stands_inside {s} k = omega (arith, k.room, stride_pos (each shape.size) s)

  -- with a choice of block b picked it stands one block further
  pub stands_with : (b t : ℕ) {stand wider : Stand} → get_or from b 0 ≤ t → t < get_or from (b + 1) 0
      → Stands shape (suc b) stand → With choices t stand wider → Stands shape b wider
  unfolding stride
  stands_with b t low high k w =
      let small = (g.listed b t (omega (arith, k.inside)) low high).1 in
      record {
        inside = omega (arith, k.inside);
        room = omega (arith, k.room, w.q_is, small.adds_small);
        least = omega (arith, k.least, w.least_is, small.least-small);
        most = omega (arith, k.most, w.most_is, small.most-small);
        others = omega (arith, k.others, w.apart_is, small.other-small);
      }

  -- the choices of the first s blocks add less than a loss of block s
  picked_low : (pick : ℕ → ℕ) (s : ℕ) → s ≤ shape.n → Picks from pick s
      → added_by (adds_of choices) pick s < stride (each shape.size) s
  unfolding firsts stride
  picked_low pick zero h p = omega arith
  picked_low pick (suc b) h p =
      let own = p b (omega arith) in
      let small = (g.listed b (pick b) (omega arith) own.0 own.1).1.adds_small in
      omega (arith, small, picked_low pick b (omega arith) (λ c k. p c (omega arith)))

  -- where none of the states is marked that the blocks left can make, nothing is to be raised
  pub gains-none : (there s : ℕ) (stand : Stand) (pick : ℕ → ℕ) → Stands shape s stand
      → get_or some (stand.q + stride (each shape.size) s) 0 ≤ get_or some stand.q 0 → Picks from pick s
      → Gains choices modulus need there marks at s stand fresh pick
  gains-none there s stand pick k same p =
      let less = picked_low pick s k.inside p in
      record {
        above = λ n low high e m.
            absurd (none_between marks at shape.states some g.counted.counted stand.q
            (stand.q + stride (each shape.size) s) k.room same (stand.q + added_by (adds_of choices) pick s)
            (omega arith) (omega (arith, less)) m);
      }

module _ {choices : List ℕ} {modulus need there : ℕ} {marks : List ℕ} {at : ℕ} where
  pub gains-more : {s : ℕ} {stand : Stand} {mid exit : List ℕ} {pick : ℕ → ℕ} → Raises mid exit
      → Gains choices modulus need there marks at s stand mid pick
      → Gains choices modulus need there marks at s stand exit pick
  gains-more up r = record { above = λ n low high e m. above_more there _ _ _ (up.grows _) (r.above n low high e m) }

  -- with no block left the mark of the state itself is raised
  pub gains-end : {s : ℕ} {stand : Stand} {exit : List ℕ} (pick : ℕ → ℕ) → s ≡ 0
      → Ends modulus need there marks at stand exit → Gains choices modulus need there marks at s stand exit pick
  unfolding firsts
  gains-end {s} {stand} {exit} pick none found =
      let same : stand.q + 0 ≡ stand.q = omega arith in
      let few : stand.apart + 0 ≡ stand.apart = omega arith in
      rw none (record {
        above = λ n low high e m. rw (same, few) (found n (omega arith) (omega arith) e (rw same at m));
      })

  -- the choice of block b with those of the blocks before it
  pub gains_pick : (b t : ℕ) {stand wider : Stand} {exit : List ℕ} (pick : ℕ → ℕ) → pick b ≡ t
      → With choices t stand wider → Gains choices modulus need there marks at b wider exit pick
      → Gains choices modulus need there marks at (suc b) stand exit pick
  unfolding firsts
  gains_pick b t {stand} {wider} {exit} pick is w r =
      let d : ℕ = added_by (adds_of choices) pick b in
      let o : ℕ = added_by (other_of choices) pick b in
      let adds : adds_of choices (pick b) ≡ adds_of choices t = ap (adds_of choices) is in
      let other : other_of choices (pick b) ≡ other_of choices t = ap (other_of choices) is in
      let state : stand.q + (d + adds_of choices (pick b)) ≡ wider.q + d = omega (arith, adds, w.q_is) in
      let apart_is : stand.apart + (o + other_of choices (pick b)) ≡ wider.apart + o =
      omega (arith, other, w.apart_is) in
      let least : least_of choices (pick b) ≡ least_of choices t = ap (least_of choices) is in
      let most : most_of choices (pick b) ≡ most_of choices t = ap (most_of choices) is in
      record {
        above = λ n low high e m.
            rw (state, apart_is)
            (r.above n (omega (arith, low, w.least_is, least)) (omega (arith, high, w.most_is, most)) e
            (rw state at m));
      }

-- ---- a row's own picks
module _ {l : Layout} {heavy : Heavy} {z vs : List ℕ} {j : ℕ} {choices : List ℕ} (from : List ℕ) (size next : ℕ → ℕ)
    (offers : (b : ℕ) → b < heavy.n
    → Offers l heavy z vs j b choices (next b * stride size b) (get_or from b 0) (get_or from (b + 1) 0)) where
  -- the choice of its chunk in block b
  pub its : ℕ → ℕ
  its b = ⊎_elim (λ h. (offers b h).0) (λ (h : heavy.n ≤ b). 0) (lt_or_ge b heavy.n)

  its-suits : (b : ℕ) → b < heavy.n
      → ((get_or from b 0 ≤ its b) × (its b < get_or from (b + 1) 0))
      × Suits l heavy z vs j b choices (next b * stride size b) (its b)
  unfolding its
  its-suits b h = go (lt_or_ge b heavy.n)
    where
      go : (d : (b < heavy.n) ⊎ (heavy.n ≤ b)) → let t = ⊎_elim (λ h. (offers b h).0) (λ (h : heavy.n ≤ b). 0) d in
          ((get_or from b 0 ≤ t) × (t < get_or from (b + 1) 0)) × Suits l heavy z vs j b choices (next b * stride size b) t
      go (inl k) = (offers b k).1
      go (inr k) = absurd (omega arith)

  pub its_picks : Picks from its heavy.n
  its_picks b h = (its-suits b h).0

  -- they add up to the state that it is at after the column, and to what it brings and where it is another
  pub its_state : (s : ℕ) → s ≤ heavy.n → added_by (adds_of choices) its s ≡ state size next s
  unfolding firsts state
  its_state zero h = refl
  its_state (suc b) h = ap₂ ◌+◌ (its_state b (omega arith)) (its-suits b (omega arith)).1.adds_just

  pub its_least : (s : ℕ) → s ≤ heavy.n → added_by (least_of choices) its s ≤ 2 * brought_in l heavy vs j s
  unfolding firsts brought
  its_least zero h = omega arith
  its_least (suc b) h = omega (arith, its_least b (omega arith), (its-suits b (omega arith)).1.least)

  pub its_most : (s : ℕ) → s ≤ heavy.n → 2 * brought_in l heavy vs j s ≤ added_by (most_of choices) its s
  unfolding firsts brought
  its_most zero h = omega arith
  its_most (suc b) h = omega (arith, its_most b (omega arith), (its-suits b (omega arith)).1.most)

  pub its_others : (s : ℕ) → s ≤ heavy.n → apart_in l heavy z vs j s ≤ added_by (other_of choices) its s
  unfolding firsts apart_in
  its_others zero h = omega arith
  its_others (suc b) h = omega (arith, its_others b (omega arith), (its-suits b (omega arith)).1.other)

  -- so with all blocks picked the mark of the state that it is at after the column is raised for it
  pub its_above : {modulus need there : ℕ} {marks : List ℕ} {at : ℕ} {stand : Stand} {fresh : List ℕ}
      → Gains choices modulus need there marks at heavy.n stand fresh its
      → (stand.q ≡ 0) × ((stand.span.low ≡ 0) × ((stand.span.high ≡ 0) × (stand.apart ≡ 0)))
      → brought_in l heavy vs j heavy.n % modulus ≡ need → 0 < get_or marks (at + state size next heavy.n) 0
      → Above there (apart_in l heavy z vs j heavy.n) (get_or fresh (state size next heavy.n) 0)
  its_above {there = there} {marks} {at} {stand} {fresh} g none is m =
      let n : ℕ = heavy.n in
      let whole : n ≤ heavy.n = omega arith in
      let same : stand.q + added_by (adds_of choices) its n ≡ state size next n =
      omega (arith, none.0, its_state n whole) in
      let raised =
      g.above (brought_in l heavy vs j n) (omega (arith, none.1.0, its_least n whole))
      (omega (arith, none.1.1.0, its_most n whole)) is
      (subst (λ (v : ℕ). 0 < get_or marks (at + v) 0) (sym same) m) in
      above-less there (apart_in l heavy z vs j n) (stand.apart + added_by (other_of choices) its n) _
      (omega (arith, its_others n whole))
      (subst (λ (v : ℕ). Above there (stand.apart + added_by (other_of choices) its n) (get_or fresh v 0)) same raised)
