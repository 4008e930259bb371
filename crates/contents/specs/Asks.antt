-- What the sum of a line asks of one of its chunks, where the others are in hand.
use Rattle.std.specs.Prelude.{ℕ, ◌+◌, ◌%◌, ◌<◌, ◌≤◌, ◌≡◌}
use Rattle.bits.specs.Bits.{longest_line, digits}
use Rattle.vt.specs.Sum.{total}
use Rattle.contents.specs.declared.Ask.{Ask}

-- the chunk may be v
abbrev pub Allows : (nc : ℕ) (a : Ask) (v : ℕ) → Type 0
Allows nc a v = (a.rest + total a.first (digits nc v)) % a.modulus ≡ a.want

-- its numbers are those of a line of the papers
pub record Small (a : Ask) : Type 0 where
  pub rest : a.rest ≤ longest_line
  pub first-low : 1 ≤ a.first
  pub first : a.first ≤ longest_line + 1
  pub modulus : 0 < a.modulus
