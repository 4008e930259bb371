-- The marks along the loss states that a row comes through, as a pass goes over the columns. Assumes nothing.
use Rattle.std.proofs.Common.{ℕ, ◌+◌, ◌*◌, ◌<◌, ◌≤◌, ◌≡◌, refl, ◌∙◌, Bool, ◌⊎◌, inl, inr, List, arith, get_or}
use Rattle.std.proofs.Math.Decide.{ℕ_discrete}
use Rattle.message.specs.declared.Layout.{Layout}
use Rattle.states.specs.States.{each, state_of}
use Rattle.states.specs.declared.Shape.{Shape}
use Rattle.column.specs.Column.{apart_in}
use Rattle.column.specs.declared.Heavy.{Heavy}
use Rattle.marks.specs.Marks.{Covers, mark_at, Path, Through, Kept, Remade}
use Rattle.marks.specs.Digits.{Within}
use Rattle.marks.proofs.Marks.{other-column, covers_less}
use Rattle.marks.proofs.Paths.{Lets, own-within, own-low}
use Rattle.live.specs.Passes.{Joined, Regained, Pass}

-- the states own have marks in every column, and in the columns that are done these cover f
pub record Passing (l : Layout) (shape : Shape) (marks : List ℕ) (own : ℕ → ℕ → ℕ) (f : ℕ → ℕ) (done : ℕ → Type 0) :
    Type 0 where
  pub lets : Lets l shape marks own
  pub covers : (i : ℕ) → i ≤ l.l2 → done i → Covers (get_or marks (mark_at shape i (own i)) 0) (f i)

module _ (l : Layout) (y numbers : List ℕ) (heavy : Heavy) (row : List ℕ) (shape : Shape) (vs : List ℕ) (own : ℕ → ℕ → ℕ)
    (kept : Kept heavy shape) (path : Path l y numbers heavy row (each shape.size) vs own) where
  within : (j : ℕ) → j ≤ l.l2 → Within shape (own j)
  within = own-within l y numbers heavy row shape vs own kept path

  low-number : (j : ℕ) → j ≤ l.l2 → state_of shape (own j) < shape.states
  low-number = own-low l y numbers heavy row shape vs own kept path

  -- one column more is passed: column c, by column b, where the row counts no less than the floor of its state
  pub passing_next : (known z : List ℕ) (j : ℕ) (ahead : Bool) (c b : ℕ) (entry marks floors : List ℕ) (f : ℕ → ℕ)
      (done done' : ℕ → Type 0)
      → c ≤ l.l2 → b ≤ l.l2 → Remade shape.states (c * shape.states) entry marks
      → ((left : ℕ → ℕ) → Within shape left → 0 < get_or entry (c * shape.states + state_of shape left) 0
      → Regained l y numbers heavy known z shape j ahead entry (b * shape.states) (get_or floors (state_of shape left) 0)
      left
      (get_or marks (c * shape.states + state_of shape left) 0))
      → Joined l y numbers heavy known j ahead (own c) (own b) vs
      → f c ≤ f b + apart_in l heavy z vs j heavy.n
      → get_or floors (state_of shape (own c)) 0 ≤ f b + apart_in l heavy z vs j heavy.n
      → done b → ((i : ℕ) → done' i → (i ≡ c) ⊎ done i)
      → Passing l shape entry own f done → Passing l shape marks own f done'
  passing_next known z j ahead c b entry marks floors f done done' hc hb r g k low floor d dd p =
      record {
        lets = λ i h. lets_at i h (ℕ_discrete i c);
        covers = λ i h e. covers_at i h (dd i e) (ℕ_discrete i c);
      }
    where
      here : Covers (get_or marks (mark_at shape c (own c)) 0) (f c)
      here =
          covers_less _ (f b + apart_in l heavy z vs j heavy.n) (f c) low
          (g (own c) (within c hc) (p.lets c hc) (own b) (within b hb) vs (f b) k (p.covers b hb d) floor)

      unchanged : (i : ℕ) → i ≤ l.l2 → (i ≡ c → ⊥)
          → get_or marks (mark_at shape i (own i)) 0 ≡ get_or entry (mark_at shape i (own i)) 0
      unchanged i h n =
          other-column shape.states c (c * shape.states) entry marks refl r i (state_of shape (own i)) n (low-number i
          h)

      lets_at : (i : ℕ) → i ≤ l.l2 → Dec (i ≡ c) → 0 < get_or marks (mark_at shape i (own i)) 0
      lets_at i h (yes e) = rw e here.0
      lets_at i h (no e) = rw (unchanged i h e) (p.lets i h)

      covers_at : (i : ℕ) → i ≤ l.l2 → (i ≡ c) ⊎ done i → Dec (i ≡ c) → Covers (get_or marks (mark_at shape i (own i)) 0)
          (f i)
      covers_at i h o (yes e) = rw e here
      covers_at i h (inl e) (no n) = absurd (n e)
      covers_at i h (inr e) (no n) = rw (unchanged i h n) (p.covers i h e)

-- ---- where a pass starts and ends
module _ (l : Layout) (shape : Shape) (marks : List ℕ) (own : ℕ → ℕ → ℕ) (f : ℕ → ℕ) (done : ℕ → Type 0) where
  pub passing_first : ((i : ℕ) → i ≤ l.l2 → done i → f i ≡ 0) → Lets l shape marks own → Passing l shape marks own f
      done
  passing_first none t = record { lets = t; covers = λ i h d. (t i h, inl (omega (arith, t i h, none i h d))) }

  pub passing_through : ((i : ℕ) → i ≤ l.l2 → done i) → Passing l shape marks own f done → Through l shape marks own f
  passing_through all p i h b = p.covers i h (all i h)

-- the columns done, one more
pub split_up : (j i : ℕ) → i ≤ j + 1 → (i ≡ j + 1) ⊎ (i ≤ j)
split_up j i h = go (ℕ_discrete i (j + 1))
  where
    go : Dec (i ≡ j + 1) → (i ≡ j + 1) ⊎ (i ≤ j)
    go (yes e) = inl e
    go (no e) = inr (omega arith)

pub split_down : (j i : ℕ) → j ≤ i → (i ≡ j) ⊎ (j + 1 ≤ i)
split_down j i h = go (ℕ_discrete i j)
  where
    go : Dec (i ≡ j) → (i ≡ j) ⊎ (j + 1 ≤ i)
    go (yes e) = inl e
    go (no e) = inr (omega arith)

-- ---- passes
module _ (l : Layout) (y numbers : List ℕ) (heavy : Heavy) (known z : List ℕ) (shape : Shape) (room : ℕ)
    (f : List ℕ → ℕ → ℕ) (entry
    marks : List ℕ) (pass : Pass l y numbers heavy known z shape room f entry marks) where
  -- one pass after another
  pub pass_then : (g : List ℕ → ℕ → ℕ) (exit : List ℕ) → Pass l y numbers heavy known z shape 0 g marks exit
      → Pass l y numbers heavy known z shape room g entry exit
  pass_then g exit next =
      record {
        long = next.long ∙ pass.long;
        through = λ row vs own light path far t. next.through row vs own light path (omega arith)
            (λ i h b. covers_less (get_or marks (mark_at shape i (own i)) 0) (f vs i) 0 (omega arith)
            (pass.through row vs own light path far t i h b));
      }
