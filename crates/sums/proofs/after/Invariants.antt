-- The loop's invariant: the sets passed hold what the blocks of a row that crosses the column bring after it.
use Rattle.std.proofs.Common.{◌≡◌, List, ℕ, ◌+◌, ◌*◌, ◌%◌, ◌<◌, length, get_or}
use Rattle.contents.specs.Contents.{Among}
use Rattle.weigh.specs.Weigh.{brought}
use Rattle.column.specs.Column.{value_at}
use Rattle.column.specs.declared.Heavy.{Heavy}
use Rattle.message.specs.declared.Layout.{Layout}
use Rattle.residues.specs.Residues.{Has}
use Rattle.sums.specs.Sums.{block_modulus, rest}
use Rattle.sums.proofs.after.Given as goal

-- the chunks of a row in the column are listed, and the column has its sum with them
pub record AmongAll (l : Layout) (heavy : Heavy) (list from : List ℕ) (j part want : ℕ) (vs : List ℕ) : Type 0 where
  pub low : part < l.l1 * l.nc + 1
  pub listed : (b : ℕ) → b < heavy.n → Among list (get_or from b 0) (get_or from (b + 1) 0) (value_at l heavy vs j b)
  pub has_sum : (part + brought l.nc heavy.block (value_at l heavy vs j) heavy.n) % (l.l1 * l.nc + 1) ≡ want

abbrev pub invariant-loop-s : goal.invariant-loop-s
invariant-loop-s l = record {
  size : length l.r ≡ 6;
  held : (vs : List ℕ) → AmongAll l.l l.heavy l.list l.from l.j l.part l.want vs → (t : ℕ) → t < l.s
      → Has (block_modulus l.l) (get_or l.sets t 0) (rest l.l l.heavy vs l.j t)
      → Has (block_modulus l.l) (get_or l.r t 0) (rest l.l l.heavy vs (l.j + 1) t);
}
