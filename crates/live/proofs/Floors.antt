-- The floors of the states of a column, made state by state. Assumes nothing.
use Rattle.std.proofs.Common.{ℕ, ◌+◌, ◌<◌, ◌≤◌, ◌≡◌, sym, ◌∙◌, List, arith, length, get_or, set, replicate, length-set, get_or-set_same, get_or-set_other}
use Rattle.std.proofs.Math.Decide.{ℕ_discrete}
use Rattle.std.proofs.Math.ListN.{length-replicate, get_or-replicate}
use Rattle.states.specs.States.{most_states, stride, each}
use Rattle.states.specs.declared.Shape.{Shape}
use Rattle.states.proofs.States.{state-low}
use Rattle.marks.specs.Marks.{many}
use Rattle.marks.specs.Digits.{Digits, entry_of}
use Rattle.near.specs.Near.{most_after}
use Rattle.near.proofs.Near.{after_same}
use Rattle.live.specs.Floors.{Floors}

-- no floors are low
pub no_floors : (q : ℕ) → q < most_states → get_or (replicate most_states 0) q 0 < many
no_floors q h = omega (arith, get_or-replicate {A = ℕ} most_states q 0 0 h)

module _ (columns : ℕ) (shape : Shape) (digits after : List ℕ) (room j : ℕ) where
  -- the states below q have their floors
  pub record Flooring (floors : List ℕ) (q : ℕ) : Type 0 where
    pub long : length floors ≡ most_states
    pub low : (p : ℕ) → p < most_states → get_or floors p 0 < many
    pub under : (p : ℕ) → p < q → (n : ℕ) → room ≤ n + most_after columns after (entry_of digits p) j shape.n
        → get_or floors p 0 ≤ n

  pub flooring_starts : Flooring (replicate most_states 0) 0
  flooring_starts =
      record { long = length-replicate {A = ℕ} most_states 0; low = no_floors; under = λ p h. absurd (omega arith) }

  -- one state more
  pub flooring_next : (floors : List ℕ) (q v : ℕ) → q < most_states → v < many
      → ((n : ℕ) → room ≤ n + most_after columns after (entry_of digits q) j shape.n → v ≤ n)
      → Flooring floors q → Flooring (set floors q v) (q + 1)
  flooring_next floors q v h low here f =
      record {
        long = length-set floors q v ∙ f.long;
        low = λ p k. low-at p k (ℕ_discrete p q);
        under = λ p k n far. under_at p k n far (ℕ_discrete p q);
      }
    where
      same : get_or (set floors q v) q 0 ≡ v
      same = get_or-set_same floors q v 0 (omega (arith, f.long))

      low-at : (p : ℕ) → p < most_states → Dec (p ≡ q) → get_or (set floors q v) p 0 < many
      low-at p k (yes e) = rw (e, same) low
      low-at p k (no e) = rw (get_or-set_other floors q p v 0 e) (f.low p k)

      under_at : (p : ℕ) → p < q + 1 → (n : ℕ) → room ≤ n + most_after columns after (entry_of digits p) j shape.n
          → Dec (p ≡ q)
          → get_or (set floors q v) p 0 ≤ n
      under_at p k n far (yes e) = rw (e, same) (here n (rw e at far))
      under_at p k n far (no e) = rw (get_or-set_other floors q p v 0 e) (f.under p (omega arith) n far)

  -- all states
  pub flooring_all : Digits shape digits → shape.states ≡ stride (each shape.size) shape.n
      → (floors : List ℕ) (q : ℕ)
      → shape.states ≤ q → Flooring floors q → Floors columns shape after room j floors
  flooring_all d all floors q h f =
      record {
        low = f.low;
        under = λ left w n far.
            f.under _ (omega (arith, h, all, state-low (each shape.size) left shape.n w)) n
            (omega (arith, far, after_same columns after left _ j shape.n (λ s k. sym (d.entry left w s k))));
      }
