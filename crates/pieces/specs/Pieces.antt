-- One block tried with a count (document 01, "Steps of the source"): which count is tried in which turn, which blocks lose
-- just so many bits against the rest of the received row, and what then stands in the row in hand.
use Rattle.std.specs.Prelude.{ℕ, ◌+◌, ◌-◌, ◌*◌, ◌<◌, ◌≤◌, ◌≡◌, Bool, true, cond, ◌&&◌, List, leb, eqb, length, get_or, take, drop}
use Rattle.bits.specs.Bits.{AllBits, longest, number}
use Rattle.vt.specs.Sum.{sum}
use Rattle.message.specs.Layout.{block_bits}
use Rattle.message.specs.declared.Layout.{Layout}
use Rattle.consistent.specs.Greedy.{losses}
use Rattle.windows.specs.Windows.{Tables}

-- the count that is tried in a turn, where the turns go from the first count to the most: the counts go up with them, or
-- down from the most
abbrev pub count_at : (first most : ℕ) → Bool → (turn : ℕ) → ℕ
count_at first most down turn = cond down (most - (turn - first)) turn

-- the tables of the rest of the received row, which starts at place p of it
pub record Tabled (rest : List ℕ) (p : ℕ) (totals counts : List ℕ) : Type 0 where
  pub tables : Tables rest p totals counts
  pub short : p + length rest ≤ longest

-- at least nb bits remain, and "the next nb bits have the block's sum"
unfoldable pub has_its_sum : (nb s : ℕ) (rest : List ℕ) → Bool
unfolding sum
has_its_sum nb s rest = leb nb (length rest) && eqb (sum (take nb rest)) s

-- the block b has the sum s, and against the rest of the received row it loses just a bits
pub record Loses (l : Layout) (s a : ℕ) (rest b : List ℕ) : Type 0 where
  pub bits : AllBits b
  pub size : length b ≡ block_bits l
  pub has_sum : sum b ≡ s
  pub own : losses b rest ≡ a

-- what it is to try block i, whose sum is s, with a losses: the answer is true where some block loses just so many, and
-- then as many bits remain as such a block keeps; with none or one loss the block stands in the row in hand, whose
-- earlier blocks stay
pub record Tried (l : Layout) (s i a : ℕ) (rest entry exit : List ℕ) (ok : Bool) : Type 0 where
  pub stays : take (i * l.l2) exit ≡ take (i * l.l2) entry
  pub within : ok ≡ true → (a ≤ block_bits l) × (block_bits l - a ≤ length rest)
  pub can : (b : List ℕ) → Loses l s a rest b → ok ≡ true
  pub light : (b : List ℕ) → Loses l s a rest b → a ≤ 1
      → (j : ℕ) → j < l.l2 → get_or exit (i * l.l2 + j) 0 ≡ number l.nc (drop (j * l.nc) b)
