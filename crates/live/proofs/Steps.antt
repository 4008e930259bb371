-- What the mark of a state gains by the marks of the states that a row joins it with across a column. Assumes nothing.
use Rattle.std.proofs.Common.{ℕ, ◌+◌, ◌<◌, ◌≤◌, ◌≡◌, refl, Bool, inl, inr, ⊎_elim, List, arith, get_or}
use Rattle.std.proofs.Math.Decide.{ℕ_discrete}
use Rattle.message.specs.declared.Layout.{Layout}
use Rattle.states.specs.States.{state_of}
use Rattle.states.specs.declared.Shape.{Shape}
use Rattle.column.specs.declared.Heavy.{Heavy}
use Rattle.steps.specs.Steps.{Above}
use Rattle.marks.specs.Marks.{Covers, Kept}
use Rattle.marks.specs.Digits.{Within, Digits, entry_of}
use Rattle.marks.proofs.Marks.{covers_more}
use Rattle.marks.proofs.Digits.{number_up, entry_is}
use Rattle.marks.proofs.Paths.{crosses-same}
use Rattle.live.specs.Passes.{Joined, Gains, SpreadBy, Gained}

-- a mark that is above another one by so many chunks covers so many more
pub above_covers : (there a mark n : ℕ) → Above there a mark → Covers there n → Covers mark (n + a)
above_covers there a mark n u c =
    ⊎_elim
    (λ h. (omega (arith, c.0), ⊎_elim (λ k. inl (omega arith)) (λ k. inr (omega arith)) c.1))
    (λ h. (omega arith, inr (omega arith)))
    u

module _ (l : Layout) (y numbers : List ℕ) (heavy : Heavy) (known : List ℕ) (j : ℕ) (ahead : Bool) (vs : List ℕ) where
  pub joined_same : (own own' other other' : ℕ → ℕ) → ((s : ℕ) → s < heavy.n → own s ≡ own' s)
      → ((s : ℕ) → s < heavy.n → other s ≡ other' s)
      → Joined l y numbers heavy known j ahead own other vs → Joined l y numbers heavy known j ahead own' other' vs
  joined_same own own' other other' a b c =
      record {
        row = c.row;
        light = c.light;
        forth = λ e. crosses-same l y numbers heavy c.row j vs other other' own own' b a (c.forth e);
        back = λ e. crosses-same l y numbers heavy c.row j vs own own' other other' a b (c.back e);
      }

-- ---- the mark of a state by the marks of others
module _ (l : Layout) (y numbers : List ℕ) (heavy : Heavy) (known z : List ℕ) (j : ℕ) (ahead : Bool) where
  -- states with the same losses left gain alike
  pub gains-same : (own own' other other' : ℕ → ℕ) (there mark : ℕ) → ((s : ℕ) → s < heavy.n → own' s ≡ own s)
      → ((s : ℕ) → s < heavy.n → other' s ≡ other s)
      → Gains l y numbers heavy known z j ahead own other there mark → Gains l y numbers heavy known z j ahead own'
      other' there mark
  gains-same own own' other other' there mark a b g vs m k c =
      g vs m (joined_same l y numbers heavy known j ahead vs own' own other' other a b k) c

  -- and a higher mark as much
  pub gains-more : (own other : ℕ → ℕ) (there mark more : ℕ) → mark ≤ more
      → Gains l y numbers heavy known z j ahead own other there mark → Gains l y numbers heavy known z j ahead own
      other there more
  gains-more own other there mark more h g vs m k c = covers_more mark more _ h (g vs m k c)

  module _ {shape : Shape} (kept : Kept heavy shape) {table : List ℕ} (digits : Digits shape table) where
    -- one other state more
    pub gained_next : (marks : List ℕ) (base p at : ℕ) (entry exit column : List ℕ)
        → SpreadBy l y numbers heavy known z table shape j ahead p (get_or marks (base + p) 0) column at entry exit
        → (own : ℕ → ℕ) → Within shape own → 0 < get_or column (at + state_of shape own) 0
        → Gained l y numbers heavy known z shape j ahead marks base p own (get_or entry (state_of shape own) 0)
        → Gained l y numbers heavy known z shape j ahead marks base (p + 1) own (get_or exit (state_of shape own) 0)
    gained_next marks base p at entry exit column spread own w m before other w' h =
        go (ℕ_discrete (state_of shape other) p)
      where
        go : Dec (state_of shape other ≡ p)
            → Gains l y numbers heavy known z j ahead own other (get_or marks (base + state_of shape other) 0) (get_or exit
            (state_of shape own) 0)
        go (yes e) =
            λ vs n k c.
            gains-same own own (entry_of table p) other (get_or marks (base + p) 0) (get_or exit (state_of shape own) 0)
            (λ t a. refl)
            (entry_is kept digits other w' p e)
            (spread.gains own w (λ a. omega (arith, number_up kept other own (k.back a).falls)) m)
            vs n k (rw e at c)
        go (no e) =
            gains-more own other (get_or marks (base + state_of shape other) 0) (get_or entry (state_of shape own) 0) _
            (spread.grows (state_of shape own)) (before other w' (omega arith))
