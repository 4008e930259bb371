-- The floor: the least row that can be under the first counts of a loss pattern, as far as these reach. Once more rows
-- were found than fit, every row that comes after the last row held is known. A piece of a row that loses just a bits
-- against the received row is at least the string that has a 0 wherever it can.
use Rattle.std.specs.Prelude.{ℕ, ◌+◌, ◌-◌, ◌*◌, ◌<◌, ◌≡◌, cond, ◌⊎◌, List, eqb, get_or, take}
use Rattle.std.specs.declared.cmp.Ordering.{Ordering}
use Rattle.std.specs.declared.cmp.Ordering.TheVariants.{Equal, Greater}
use Rattle.rows.specs.Order.{Less}
use Rattle.message.specs.Layout.{block_bits}
use Rattle.message.specs.declared.Layout.{Layout}
use Rattle.consistent.specs.Greedy.{losses}
use Rattle.lines.specs.Lines.{values}

-- the next bit of the received row at a place. Where it has ended every bit is lost and can be 0, as if ones went on
abbrev pub next_bit : (y : List ℕ) (p : ℕ) → ℕ
next_bit y p = get_or y p 1

-- of the least string of w bits that loses just a, whether the first bit is lost (1) or takes the next bit of the
-- received row (0): with no loss left it takes it; where all bits are lost it is lost; else a 1 is lost, so that a 0
-- stands there
abbrev pub least_lost : (next a w : ℕ) → ℕ
least_lost next a w = cond (eqb a 0) 0 (cond (eqb a w) 1 next)

-- a bit that is lost is the complement of the next bit of the received row, a bit that takes it is the same
abbrev pub bit_of : (next lost : ℕ) → ℕ
bit_of next lost = cond (eqb lost 0) next (1 - next)

-- the row x comes after z, or has its first g bits
abbrev pub AtLeast : (g : ℕ) (z x : List ℕ) → Type 0
AtLeast g z x = Less z x ⊎ (take g x ≡ take g z)

-- what an answer says that compares bits g to e of the floor with those of z, of a row x that is at least z up to g:
-- Greater, that x comes after z; Equal, that it is at least z up to e
pub record Compared (g e : ℕ) (z x : List ℕ) (answer : Ordering) : Type 0 where
  pub after : answer ≡ Greater → AtLeast g z x → Less z x
  pub same : answer ≡ Equal → AtLeast g z x → AtLeast e z x

-- block b of x stands in the row in hand
abbrev pub BlockInHand : Layout → (row : List ℕ) (b : ℕ) (x : List ℕ) → Type 0
BlockInHand l row b x = (j : ℕ) → j < l.l2 → get_or (values l x) (b * l.l2 + j) 0 ≡ get_or row (b * l.l2 + j) 0

-- x loses d bits before block b and a in it
pub record BlockLoses (l : Layout) (y : List ℕ) (b d a : ℕ) (x : List ℕ) : Type 0 where
  pub before : losses (take (b * block_bits l) x) y ≡ d
  pub inside : losses (take (b * block_bits l + block_bits l) x) y ≡ d + a

-- block b of a row x compared with that of z
abbrev pub BlockCompared : Layout → (b : ℕ) (z x : List ℕ) (answer : Ordering) → Type 0
BlockCompared l b z x answer = Compared (b * block_bits l) (b * block_bits l + block_bits l) z x answer
