-- What the bounds of a short layout are, and how the table holds a column more. Assumes nothing.
use Prim.Native.Nat.{ℕ, ◌+◌, ◌*◌, ◌<◌, ◌≤◌}
use mathlib.Core.Path.{◌≡◌, sym, ap, subst, ◌∙◌}
use mathlib.Core.Bool.{true}
use mathlib.Core.Logic.{inr, ⊎_elim}
use mathlib.Core.List.{List}
use native.Mathlib.Decide.{ℕ_discrete}
use native.Mathlib.Nat.{mul-le-mul_left, mul-le-mul_right}
use native.Mathlib.Omega.{arith}
use borrow.Author.Count.{below_more}
use lib.ListN.{length, get_or, set, length-set}
use lib.Seq.{get_or-set_same, get_or-set_other}
use Rattle.message.specs.Layout.{legal}
use Rattle.message.specs.declared.Layout.{Layout}
use Rattle.message.proofs.Fields.{field_room}
use Rattle.message.proofs.Legal.{legal_bounds}
use Rattle.column.specs.Column.{Crosses, value_at}
use Rattle.column.specs.declared.Heavy.{Heavy}
use Rattle.column.proofs.Rows.{crosses-readable}
use Rattle.marks.specs.Marks.{Path}
use Rattle.marks.proofs.Paths.{path-most}
use Rattle.residues.specs.Residues.{Has}
use Rattle.states.specs.States.{lefts, each}
use Rattle.sums.specs.Sums.{Short, block_modulus, rest, rest_at, HoldsFrom}
use Rattle.sums.proofs.Rest.{rest-next, rest_end}
use Rattle.rests.specs.Rests.{ShortChunk, CanBe, Brings, Filled, FilledColumn}

-- the blocks of a short layout have at most twenty chunks
pub short_columns : (l : Layout) → legal l ≡ true → Short l → l.l2 ≤ 20
short_columns l e short = omega (arith, short.blocks, mul-le-mul_left l.l2 (legal_bounds l e).nc_low)

-- where the first position of a chunk stands in its block
pub record Low (l : Layout) (c : ℕ) : Type 0 where
  pub nc_high : l.nc ≤ 8
  pub column : c < 20
  pub modulus : l.l2 * l.nc ≤ 62
  pub first : c * l.nc ≤ 62

pub short-low : {l : Layout} {y : List ℕ} {block c : ℕ} → ShortChunk l y block c → Low l c
short-low {l} {c = c} s =
    record {
      nc_high = (legal_bounds l s.allowed).nc_high;
      column = omega (arith, short_columns l s.allowed s.is_short, s.column);
      modulus = s.is_short.blocks;
      first = omega (arith, field_room l.l2 l.nc c s.column, s.is_short.blocks);
    }

module _ (l : Layout) (y : List ℕ) (block end c s : ℕ) where
  -- one entry more, from the entries of the next column, which stay
  pub filled_next : (n : ℕ) (entry exit : List ℕ) → Filled l y block end c s n entry exit
      → n < lefts → s < 6 → rest_at (c + 2) 0 0 ≤ length exit → (at v : ℕ) → at ≡ rest_at c s n
      → ((next : ℕ) → next ≤ n → Brings l y block end c n next (get_or exit (c * 78 + s * 13 + 78 + next) 0) v)
      → Filled l y block end c s (n + 1) entry (set exit at v)
  filled_next n entry exit f low few room at v is brings =
      record {
        long = length-set exit at v ∙ f.long;
        others = λ i h.
            get_or-set_other exit at i v 0
            (λ q. ⊎_elim (λ (k : i < rest_at c s 0). omega (arith, q, k, is))
            (λ (k : rest_at c s lefts ≤ i). omega (arith, q, k, is, low)) h)
            ∙ f.others i h;
        put = below_more _ _
            (λ left h next k.
            rw (get_or-set_other exit at (rest_at c s left) v 0 (λ q. omega (arith, q, is, h))) (f.put left h next k))
            own;
      }
    where
      own : (next : ℕ) → next ≤ n
          → Brings l y block end c n next (get_or entry (rest_at (c + 1) s next) 0) (get_or (set exit at v) (rest_at c s n) 0)
      own next h =
          let same = ap (λ (i : ℕ). get_or (set exit at v) i 0) (sym is)
          ∙ get_or-set_same exit at v 0 (omega (arith, is, low, few, room)) in
          let place : c * 78 + s * 13 + 78 + next ≡ rest_at (c + 1) s next = omega arith in
          let was = ap (λ (i : ℕ). get_or exit i 0) place
          ∙ f.others (rest_at (c + 1) s next) (inr (omega (arith, few))) in
          subst (λ (w : ℕ). Brings l y block end c n next w (get_or (set exit at v) (rest_at c s n) 0)) was
          (subst (λ (w : ℕ). Brings l y block end c n next (get_or exit (c * 78 + s * 13 + 78 + next) 0) w) (sym same)
          (brings next h))

-- what the chunk of a heavy block is in a row that crosses its column
pub can_be : {l : Layout} {y numbers : List ℕ} {heavy : Heavy} {row : List ℕ} {c : ℕ} {left next : ℕ → ℕ} {vs : List ℕ}
    → Crosses l y numbers heavy row c left next vs → (s : ℕ) → s < heavy.n
    → CanBe l y (get_or heavy.block s 0) (get_or heavy.end s 0) c (left s) (next s) (value_at l heavy vs c s)
can_be x s h = record { readable = crosses-readable x s h; small = x.small s h; loses = x.loses s h }

-- ---- the table of all columns
module _ (l : Layout) (y numbers : List ℕ) (heavy : Heavy) (row size vs : List ℕ) (own : ℕ → ℕ → ℕ)
    (path : Path l y numbers heavy row (each size) vs own) where
  -- behind the last column nothing is left, and nothing is brought
  pub end-holds : (rests : List ℕ)
      → ((s : ℕ) → s < heavy.n → Has (block_modulus l) (get_or rests (rest_at l.l2 s 0) 0) 0)
      → HoldsFrom l heavy rests vs own l.l2
  end-holds rests none short c s low high h =
      let e : c ≡ l.l2 = omega (arith, low, high) in
      rw (e, path.ends s h, rest_end l heavy vs s) (none s h)

  -- a filled column holds what the chunk brings with what those behind it bring
  pub column-holds : (c : ℕ) (entry exit : List ℕ) → c < l.l2 → FilledColumn l y heavy size c heavy.n entry exit
      → HoldsFrom l heavy entry vs own (c + 1) → HoldsFrom l heavy exit vs own c
  column-holds c entry exit inside f holds short k s low high h = go (ℕ_discrete k c)
    where
      here : Has (block_modulus l) (get_or exit (rest_at c s (own c s)) 0) (rest l heavy vs c s)
      here =
          subst (λ (r : ℕ). Has (block_modulus l) (get_or exit (rest_at c s (own c s)) 0) r)
          (sym (rest-next l heavy vs s c inside))
          (f.put s (own c s) (own (c + 1) s) h (path-most path c s (omega (arith, inside)) h)
          ((path.crosses c inside).falls s h) (value_at l heavy vs c s) (rest l heavy vs (c + 1) s)
          (can_be (path.crosses c inside) s h)
          (holds short (c + 1) s (omega arith) (omega (arith, inside)) h))

      go : Dec (k ≡ c) → Has (block_modulus l) (get_or exit (rest_at k s (own k s)) 0) (rest l heavy vs k s)
      go (yes e) = rw e here
      go (no e) =
          let above : c + 1 ≤ k = omega (arith, e, low) in
          let stands = mul-le-mul_right {m = c + 1} {n = k} 78 above in
          rw (f.behind (rest_at k s (own k s)) (omega (arith, stands))) (holds short k s above high h)
