-- A row that crosses a column: its chunks in the heavy blocks can be what is weighed, they bring what the
-- chunk-string's sum still needs, and those that lost no bit are as they are read. Rests on Zeros. Assumes nothing.
use Prim.Native.Nat.{ℕ, ◌+◌, ◌*◌, ◌/◌, ◌%◌, ◌^◌, ◌<◌, ◌≤◌}
use mathlib.Core.Path.{◌≡◌, sym, ap, ◌∙◌}
use mathlib.Core.Bool.{Bool, true, false, cond}
use mathlib.Core.List.{List, ◌++◌}
use native.Mathlib.Nat.{mod-eq_of_lt, div-add-mod', add-mul-mod_self_right}
use native.Mathlib.Omega.{arith}
use lib.ListN.{length, get_or, take, drop, take-append-drop}
use Rattle.bits.specs.Bits.{longest, most_chunks, most_in_line, longest_line, digits, number}
use Rattle.bits.proofs.Laws.{length_digits, number_digits}
use Rattle.message.specs.Layout.{legal}
use Rattle.message.specs.declared.Layout.{Layout}
use Rattle.message.proofs.Legal.{legal_bounds, sizes, chunk_lies, string_high}
use Rattle.consistent.specs.Greedy.{losses}
use Rattle.consistent.proofs.Greedy.{whole}
use Rattle.weigh.specs.declared.Chunks.{Chunks}
use Rattle.weigh.specs.Weigh.{Can, brought}
use Rattle.column.specs.Column.{Fit, value_at, filled, Light, Crosses, readable, Placed, AsRead}
use Rattle.column.specs.declared.Heavy.{Heavy}
use Rattle.lines.proofs.Turns.{sum_low}
use Rattle.column.proofs.Zeros.{whole_sum}

-- what counts where something is so and not where it is not counts one at most
pub one-most : (b : Bool) → cond b 0 1 ≤ 1
one-most true = omega arith
one-most false = omega arith

-- where a chunk of a layout stands
pub chunk_stands : (l : Layout) → legal l ≡ true → (i j : ℕ) → i < l.l1 → j < l.l2
    → (i * l.l2 + j < l.l1 * l.l2) × ((i * l.l2 + j < most_chunks) × ((i * l.l2 + j) * l.nc ≤ longest))
chunk_stands l e i j h g = let c = chunk_lies l e i j h g in (c.inside, (c.low, c.in_row))

-- the sum of a chunk-string and its place among the numbers are small, and so is its modulus
pub record StringLow (l : Layout) (numbers : List ℕ) (j : ℕ) : Type 0 where
  pub modulus : l.l1 * l.nc ≤ longest_line
  pub sum : get_or numbers (l.l1 + j) 0 ≤ l.l1 * l.nc
  pub index : l.l1 + j ≤ most_in_line + most_in_line

pub string_low : {l : Layout} {y numbers : List ℕ} {heavy : Heavy} → Fit l y numbers heavy → (j : ℕ) → j < l.l2
    → StringLow l numbers j
string_low {l} f j inside =
    let z = sizes l (legal_bounds l f.allowed) in
    record {
      modulus = string_high l f.allowed;
      sum = f.low j inside;
      index = omega (arith, z.l1_high, z.l2_high);
    }

-- a chunk that loses no bit is what is read
pub no_loss : (nc v : ℕ) (y : List ℕ) → v < 2 ^ nc → losses (digits nc v) y ≡ 0 → v ≡ number nc y
no_loss nc v y h z =
    let e : digits nc v ≡ take nc y = whole (digits nc v) y z ∙ ap (λ (n : ℕ). take n y) (length_digits nc v) in
    let s : digits nc v ++ drop nc y ≡ y = ap (λ (d : List ℕ). d ++ drop nc y) e ∙ take-append-drop nc y in
    sym (ap (number nc) (sym s) ∙ number_digits nc v (drop nc y) ∙ mod-eq_of_lt h)

-- what is brought beside a part of a sum, modulo the modulus
pub rest_is : (whole part m b r k : ℕ) → r < m → r + part ≡ whole + k * m → (part + b) % m ≡ whole → b % m ≡ r
rest_is whole part m b r k h e g =
    let q : ℕ = (part + b) / m in
    let n : b + k * m ≡ r + q * m = omega (arith, div-add-mod' (part + b) m, g, e) in
    sym (add-mul-mod_self_right b k m) ∙ ap (λ (v : ℕ). v % m) n ∙ add-mul-mod_self_right r q m ∙ mod-eq_of_lt h

-- the sum of the chunks in hand is below the modulus
pub known-low : (l : Layout) (heavy : Heavy) (row known : List ℕ) (j : ℕ) → Light l heavy row known → j < l.l2
    → get_or known j 0 < l.l1 * l.nc + 1
known-low l heavy row known j light inside =
    rw (light j inside) (sum_low l.nc j l.l2 l.l1 (filled l heavy (λ s. 0) j heavy.n row))

module _ {l : Layout} {y numbers : List ℕ} {heavy : Heavy} {row : List ℕ} {j : ℕ} {left next : ℕ → ℕ} {vs : List ℕ}
    (c : Crosses l y numbers heavy row j left next vs) where
  -- its chunks can be read
  pub crosses-readable : (s : ℕ) → s < heavy.n → readable l (length y) heavy j left next s
  crosses-readable s h =
      record { falls = c.falls s h; few = c.few s h; starts = c.starts s h; there = c.there s h }

  -- the numbers of its chunks in the heavy blocks
  abbrev own : ℕ → ℕ
  own = value_at l heavy vs j

  -- they bring what is missing of the sum of the chunks in hand
  pub crosses-brings : Fit l y numbers heavy → j < l.l2 → (known : List ℕ) → Light l heavy row known
      → (n : ℕ) (block : List ℕ) → n ≡ heavy.n → block ≡ heavy.block
      → (get_or known j 0 + brought l.nc block own n) % (l.l1 * l.nc + 1) ≡ get_or numbers (l.l1 + j) 0
  crosses-brings f inside known light n block count same =
      let m : ℕ = l.l1 * l.nc + 1 in
      rw (count, same)
      (ap (λ (v : ℕ). (v + brought l.nc heavy.block own heavy.n) % m) (light j inside)
      ∙ (whole_sum l heavy j y numbers f inside vs row c.others ∙ c.has_sum))

  module _ {chunks : Chunks} (p : Placed l (length y) heavy j left next chunks) where
    -- they can be these numbers
    pub crosses-can : Can l.nc y chunks own
    crosses-can =
        record {
          small = λ s h. c.small s (within s h);
          few = λ s h. omega (arith, p.lost s (within s h), c.few s (within s h));
          there = λ s h. p.within s (within s h);
          loses = λ s h. rw (p.place s (within s h), p.lost s (within s h)) (c.loses s (within s h));
        }
      where
        within : (s : ℕ) → s < chunks.n → s < heavy.n
        within s h = omega (arith, p.count)

    -- where they lost no bit they are as they are read
    pub crosses_as_read : AsRead l y heavy chunks vs j heavy.n
    crosses_as_read s h z =
        rw (p.place s h) (no_loss l.nc (own s) _ (c.small s h) (c.loses s h ∙ sym (p.lost s h) ∙ z))
