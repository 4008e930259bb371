-- A chunk that is read whole and brings its column to the sum.
use Rattle.std.specs.Prelude.{ℕ, ◌+◌, ◌%◌, ◌<◌, ◌≡◌, List, length}
use Rattle.message.specs.declared.Layout.{Layout}
use Rattle.whole.specs.Whole.{modulus, Legible, brings}
use Rattle.sets.specs.Sets.{In}

-- the chunk of a block in column j, read whole where e losses are left, brings the column to its sum from a residue of a
-- set
pub record Hits (l : Layout) (y : List ℕ) (block end j e sum : ℕ) (set : List ℕ) (part : ℕ) : Type 0 where
  pub low : part < modulus l
  pub among : In set part
  pub legible : Legible l (length y) block end j e
  pub sums : (part + brings l y block end j e) % modulus l ≡ sum
