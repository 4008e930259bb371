-- Fresh marks of one column, raised state by state. Assumes nothing.
use Rattle.std.proofs.Common.{ℕ, ◌+◌, ◌<◌, ◌≤◌, ◌≡◌, ◌∙◌, Bool, false, List, arith, length, get_or, set, length-set, get_or-set_same, get_or-set_other}
use Rattle.std.proofs.Math.Decide.{ℕ_discrete}
use Rattle.message.specs.declared.Layout.{Layout}
use Rattle.states.specs.States.{state_of}
use Rattle.states.specs.declared.Shape.{Shape}
use Rattle.column.specs.declared.Heavy.{Heavy}
use Rattle.marks.specs.Marks.{Kept}
use Rattle.marks.specs.Digits.{Within, entry_of, Digits}
use Rattle.live.specs.Passes.{Gains, Spread, SpreadBy, Gained}
use Rattle.live.proofs.Steps.{gained_next}

-- ---- fresh marks of a column
module _ (l : Layout) (y numbers : List ℕ) (heavy : Heavy) (known z digits : List ℕ) (j : ℕ) (other : ℕ → ℕ) (there : ℕ)
    (marks : List ℕ) (at low : ℕ) (entry : List ℕ) where
  -- one fresh mark more is raised
  pub spread_next : (q v : ℕ) (fresh : List ℕ) → q < length fresh → get_or fresh q 0 ≤ v
      → (0 < get_or marks (at + q) 0 → Gains l y numbers heavy known z j false (entry_of digits q) other there v)
      → Spread l y numbers heavy known z digits j other there marks at low q entry fresh
      → Spread l y numbers heavy known z digits j other there marks at low (q + 1) entry (set fresh q v)
  spread_next q v fresh h up here s =
      record {
        long = length-set fresh q v ∙ s.long;
        grows = λ i. grows_at i (ℕ_discrete i q);
        gains = λ i lo hi m. gains-at i lo hi m (ℕ_discrete i q);
      }
    where
      grows_at : (i : ℕ) → Dec (i ≡ q) → get_or entry i 0 ≤ get_or (set fresh q v) i 0
      grows_at i (yes e) = rw (e, get_or-set_same fresh q v 0 h) (omega (arith, s.grows q))
      grows_at i (no e) = rw (get_or-set_other fresh q i v 0 e) (s.grows i)

      gains-at : (i : ℕ) → low ≤ i → i < q + 1 → 0 < get_or marks (at + i) 0 → Dec (i ≡ q)
          → Gains l y numbers heavy known z j false (entry_of digits i) other there (get_or (set fresh q v) i 0)
      gains-at i lo hi m (yes e) = rw (e, get_or-set_same fresh q v 0 h) (here (rw e at m))
      gains-at i lo hi m (no e) = rw (get_or-set_other fresh q i v 0 e) (s.gains i lo (omega arith) m)

-- the fresh marks of a column gain by the other states below p
module _ (l : Layout) (y numbers : List ℕ) (heavy : Heavy) (known z : List ℕ) (shape : Shape) (j : ℕ) (ahead : Bool)
    (at base : ℕ)
    (marks : List ℕ) where
  pub record Remaking (fresh : List ℕ) (p : ℕ) : Type 0 where
    pub gained : (own : ℕ → ℕ) → Within shape own → 0 < get_or marks (at + state_of shape own) 0
        → Gained l y numbers heavy known z shape j ahead marks base p own (get_or fresh (state_of shape own) 0)

  pub remaking_next : Kept heavy shape → (digits : List ℕ) → Digits shape digits → (fresh more : List ℕ) (p : ℕ)
      → SpreadBy l y numbers heavy known z digits shape j ahead p (get_or marks (base + p) 0) marks at fresh more
      → Remaking fresh p → Remaking more (p + 1)
  remaking_next kept digits d fresh more p s r =
      record {
        gained = λ own w m.
            gained_next l y numbers heavy known z j ahead kept d marks base p at fresh more marks s own w m
            (r.gained own w m);
      }
