-- What holds of the numbers of a guess at any time, so that it is safe and ends; a guess promises nothing else.
use Rattle.std.specs.Prelude.{ℕ, ◌*◌, ◌≤◌, ◌≡◌, List, length}
use Rattle.bits.specs.Bits.{AllBits}
use Rattle.message.specs.Layout.{row_bits, block_bits}
use Rattle.message.specs.declared.Layout.{Layout}
use Rattle.hint.specs.declared.Stand.{Stand}
use Rattle.hint.specs.declared.Try.{Try}

-- the places of a try are places of the received row or its end, and its lengths are small
pub record Fit (y : List ℕ) (t : Try) : Type 0 where
  pub q_in : t.q ≤ length y
  pub r_in : t.r ≤ length y
  pub g_few : t.g ≤ 13
  pub e_few : t.e ≤ 13

-- a row in hand: as many bits as the layout has
pub record Hand (l : Layout) (x : List ℕ) : Type 0 where
  pub bits : AllBits x
  pub size : length x ≡ row_bits l

-- block i, or the end of the row, is read from a place that is not behind its own
pub record Stands (l : Layout) (s : Stand) : Type 0 where
  pub inside : s.i ≤ l.l1
  pub before : s.p ≤ s.i * block_bits l
