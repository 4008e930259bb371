-- The numbers of loss states, and the table of the losses left in each. Assumes nothing.
use Prim.Native.Nat.{ℕ, ◌+◌, ◌*◌, ◌<◌, ◌≤◌}
use mathlib.Core.Path.{◌≡◌, sym, ◌∙◌}
use mathlib.Core.List.{List}
use native.Mathlib.Decide.{ℕ_discrete}
use native.Mathlib.Omega.{arith}
use lib.ListN.{get_or}
use Rattle.states.specs.States.{stride, each, state_of}
use Rattle.states.specs.declared.Shape.{Shape}
use Rattle.states.proofs.States.{stride_pos, state-low, state_up, digits_of, state_of_is, digits-most}
use Rattle.column.specs.declared.Heavy.{Heavy}
use Rattle.marks.specs.Marks.{Kept}
use Rattle.marks.specs.Digits.{Within, Digits, PutAt, entry_of}

module _ {heavy : Heavy} {shape : Shape} (kept : Kept heavy shape) where
  -- the number of a state is below the number of states
  pub number-low : (left : ℕ → ℕ) → Within shape left → state_of shape left < shape.states
  number-low left w = omega (arith, state-low (each shape.size) left shape.n w, kept.shaped.all)

  -- there is a state
  pub some-state : 0 < shape.states
  some-state = omega (arith, kept.shaped.all, stride_pos (each shape.size) shape.n)

  -- with no more left in any block the number is no higher
  pub number_up : (low high : ℕ → ℕ) → ((s : ℕ) → s < heavy.n → low s ≤ high s) → state_of shape low ≤ state_of shape
      high
  number_up low high h = state_up (each shape.size) low high shape.n (λ s k. h s (omega (arith, kept.blocks)))

  -- the losses left that the table has for the number of a state are its own
  pub entry_is : {table : List ℕ} → Digits shape table → (own : ℕ → ℕ) → Within shape own → (q : ℕ) → state_of shape
      own ≡ q
      → (s : ℕ) → s < heavy.n → own s ≡ entry_of table q s
  entry_is {table} d own w q e s h = rw (← e) (sym (d.entry own w s (omega (arith, kept.blocks))))

-- no block has more left in a state than it has at most
pub entry-low : {shape : Shape} {table : List ℕ} → shape.states ≡ stride (each shape.size) shape.n
    → Digits shape table
    → (q : ℕ) → q < shape.states → (s : ℕ) → s < shape.n → entry_of table q s ≤ each shape.size s
entry-low {shape} all d q low s h =
    let size = each shape.size in
    let most : Within shape (digits_of size q) = λ t k. digits-most size q t in
    let number = state_of_is size q shape.n (omega (arith, low, all)) in
    omega (arith, rw number at (d.entry (digits_of size q) most s h), most s h)

-- ---- the table of the losses left, for the states below q
pub record Tabled (shape : Shape) (q : ℕ) (table : List ℕ) : Type 0 where
  pub entry : (left : ℕ → ℕ) → Within shape left → state_of shape left < q → (s : ℕ) → s < shape.n
      → get_or table (state_of shape left * 6 + s) 0 ≡ left s

pub table-next : (shape : Shape) → shape.n ≤ 6 → (entry exit : List ℕ) (q : ℕ) (found : List ℕ) → Tabled shape q entry
    → PutAt q found entry exit
    → ((left : ℕ → ℕ) → Within shape left → q ≡ state_of shape left → (s : ℕ) → s < shape.n → get_or found s 0 ≡ left s)
    → Tabled shape (q + 1) exit
table-next shape few entry exit q found before put digits =
    record { entry = λ left w h s k. go left w h s k (ℕ_discrete (state_of shape left) q) }
  where
    go : (left : ℕ → ℕ) → Within shape left → state_of shape left < q + 1 → (s : ℕ) → s < shape.n
        → Dec (state_of shape left ≡ q) → get_or exit (state_of shape left * 6 + s) 0 ≡ left s
    go left w h s k (yes e) = rw e (put.here s (omega arith) ∙ digits left w (sym e) s k)
    go left w h s k (no e) = put.before (state_of shape left * 6 + s) (omega arith) ∙ before.entry left w (omega
        arith) s k
