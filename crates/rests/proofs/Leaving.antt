-- How the marks of a heavy block grow by a number of losses, and those of a column by a block; and what they say of a
-- row that crosses the column. Assumes nothing.
use Prim.Native.Nat.{ℕ, ◌+◌, ◌<◌, ◌≤◌}
use mathlib.Core.Path.{◌≡◌, ap, subst, ◌∙◌}
use mathlib.Core.List.{List}
use native.Mathlib.Decide.{ℕ_discrete}
use native.Mathlib.Omega.{arith}
use borrow.Author.Count.{below_more}
use lib.ListN.{length, get_or, set, replicate, length-set, get_or-replicate}
use lib.Seq.{get_or-set_same, get_or-set_other}
use Rattle.message.specs.declared.Layout.{Layout}
use Rattle.column.specs.Column.{Crosses, value_at}
use Rattle.column.specs.declared.Heavy.{Heavy}
use Rattle.residues.specs.Residues.{Has}
use Rattle.states.specs.States.{lefts, each, entry_at}
use Rattle.sums.specs.Sums.{block_modulus, rest, rest_at}
use Rattle.sums.proofs.Rest.{rest-next}
use Rattle.rests.specs.Rests.{Where, Marked}
use Rattle.rests.proofs.Rests.{can_be}

-- a mark that is put stands, and the others stay
pub mark_put : (can : List ℕ) (at i : ℕ) → at < length can → i ≡ at → 0 < get_or (set can at 1) i 0
mark_put can at i inside e =
    let one = ap (λ (k : ℕ). get_or (set can at 1) k 0) e ∙ get_or-set_same can at 1 0 inside in
    omega (arith, one)

pub mark_stays : (can : List ℕ) (at i : ℕ) → at < length can → 0 < get_or can i 0 → 0 < get_or (set can at 1) i 0
mark_stays can at i inside h = go (ℕ_discrete i at)
  where
    go : Dec (i ≡ at) → 0 < get_or (set can at 1) i 0
    go (yes e) = mark_put can at i inside e
    go (no e) = rw (get_or-set_other can at i 1 0 e) h

module _ (l : Layout) (y : List ℕ) (block end c s left among : ℕ) (rests entry : List ℕ) where
  -- a number more: it is marked
  pub marked_next : (n : ℕ) (exit : List ℕ) → Marked l y block end c s left among rests entry n exit
      → (at : ℕ) → at ≡ entry_at s n → at < length exit
      → Marked l y block end c s left among rests entry (n + 1) (set exit at 1)
  marked_next n exit m at is inside =
      record {
        long = length-set exit at 1 ∙ m.long;
        stay = λ i h. mark_stays exit at i inside (m.stay i h);
        put = below_more _ n
            (λ next h v k can b a. mark_stays exit at (entry_at s next) inside (m.put next h v k can b a))
            (λ v k can b a. mark_put exit at (entry_at s n) inside (omega (arith, is)));
      }

  -- or the block cannot leave the column with it
  pub marked_passes : (n : ℕ) (exit : List ℕ) → Marked l y block end c s left among rests entry n exit
      → Where l y block end c left among (get_or rests (rest_at (c + 1) s n) 0) n ⊥
      → Marked l y block end c s left among rests entry (n + 1) exit
  marked_passes n exit m cannot =
      record {
        long = m.long;
        stay = m.stay;
        put = below_more _ n m.put (λ v k can b a. absurd (cannot v k can b a));
      }

-- the numbers of losses with which the first n heavy blocks can leave column c are marked
abbrev pub Leaves : Layout → (y : List ℕ) → Heavy → (c : ℕ) (left sets rests : List ℕ) (n : ℕ) (can : List ℕ) → Type 0
Leaves l y heavy c left sets rests n can =
    (s : ℕ) → s < n → (next : ℕ) → next ≤ each left s
    → Where l y (get_or heavy.block s 0) (get_or heavy.end s 0) c (each left s) (get_or sets s 0)
    (get_or rests (rest_at (c + 1) s next) 0) next (0 < get_or can (entry_at s next) 0)

-- a block more
pub leaves_next : (l : Layout) (y : List ℕ) (heavy : Heavy) (c : ℕ) (left sets rests : List ℕ) (n : ℕ)
    (before can : List ℕ) → Leaves l y heavy c left sets rests n before
    → Marked l y (get_or heavy.block n 0) (get_or heavy.end n 0) c n (each left n) (get_or sets n 0) rests before (each left n + 1) can
    → Leaves l y heavy c left sets rests (n + 1) can
leaves_next l y heavy c left sets rests n before can old m =
    below_more _ n (λ s h next k v i b has a. m.stay (entry_at s next) (old s h next k v i b has a))
    (λ next k v i b has a. m.put next (omega (arith, k)) v i b has a)

-- where all blocks are passed, each leaves a column that a row crosses with a number that is marked
pub leaves_done : (l : Layout) (y numbers : List ℕ) (heavy : Heavy) (row : List ℕ) (c : ℕ) (left : List ℕ)
    (next : ℕ → ℕ) (vs sets rests can : List ℕ) → c < l.l2 → Leaves l y heavy c left sets rests heavy.n can
    → Crosses l y numbers heavy row c (each left) next vs → (s : ℕ) → s < heavy.n
    → Has (block_modulus l) (get_or sets s 0) (rest l heavy vs c s)
    → Has (block_modulus l) (get_or rests (rest_at (c + 1) s (next s)) 0) (rest l heavy vs (c + 1) s)
    → 0 < get_or can (entry_at s (next s)) 0
leaves_done l y numbers heavy row c left next vs sets rests can inside all x s h has behind =
    all s h (next s) (x.falls s h) (value_at l heavy vs c s) (rest l heavy vs (c + 1) s) (can_be x s h) behind
    (subst (λ (r : ℕ). Has (block_modulus l) (get_or sets s 0) r) (rest-next l heavy vs s c inside) has)

-- where each number is marked, so are those of a row that crosses the column
pub all-marked : (l : Layout) (y numbers : List ℕ) (heavy : Heavy) (row : List ℕ) (c : ℕ) (left : List ℕ)
    (next : ℕ → ℕ) (vs : List ℕ) → heavy.n ≤ 6 → ((s : ℕ) → s < heavy.n → each left s < lefts)
    → Crosses l y numbers heavy row c (each left) next vs → (s : ℕ) → s < heavy.n
    → 0 < get_or (replicate 78 1) (entry_at s (next s)) 0
all-marked l y numbers heavy row c left next vs few small x s h =
    let low : entry_at s (next s) < 78 = omega (arith, few, small s h, x.falls s h, h) in
    rw (get_or-replicate {A = ℕ} 78 (entry_at s (next s)) 1 0 low) (omega arith)
