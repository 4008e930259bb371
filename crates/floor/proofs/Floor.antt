-- What the floor is good for: a row under the first counts of a pattern is at least the floor, bit by bit and chunk by
-- chunk; and a row that comes after the last row held is known where more were found than fit. Assumes nothing.
use Prim.Native.Nat.{ℕ, ◌+◌, ◌-◌, ◌*◌, ◌<◌, ◌≤◌}
use mathlib.Core.Path.{◌≡◌, refl, sym, ap, ◌∙◌}
use mathlib.Core.Bool.{true}
use mathlib.Core.Logic.{◌⊎◌, inl, inr, ⊎_elim}
use mathlib.Core.List.{List, []}
use native.Mathlib.Nat.{add-mul, one-mul, mul-le-mul_right}
use native.Mathlib.Omega.{arith}
use lib.ListN.{length, get_or, take, drop, length-map, get_or-map}
use lib.Seq.{take-nil}
use Rattle.std.specs.declared.cmp.Ordering.{Ordering}
use Rattle.std.specs.declared.cmp.Ordering.TheVariants.{Equal}
use Rattle.std.specs.Ordering.{nat_cmp}
use Rattle.std.proofs.lemmas.Cmp.{ranked}
use Rattle.bits.specs.Bits.{AllBits, cut, bytes_for, number, unpack}
use Rattle.rows.specs.Held.{Known}
use Rattle.rows.specs.Order.{Less, Row}
use Rattle.rows.specs.declared.Kept.{Kept}
use Rattle.rows.proofs.Slice.{length_cut, row_at, row_fits}
use Rattle.message.specs.Layout.{row_bits, block_bits}
use Rattle.message.specs.declared.Layout.{Layout}
use Rattle.message.proofs.Fields.{field_room}
use Rattle.consistent.specs.Greedy.{losses, in_all}
use Rattle.lines.specs.Lines.{values}
use Rattle.lines.proofs.Lines.{value-at}
use Rattle.found.specs.Sought.{Sought, held_of, Holding}
use Rattle.anchor.specs.Anchor.{OwnCounts}
use Rattle.anchor.proofs.Totals.{total-next}
use Rattle.floor.specs.Floor.{next_bit, least_lost, bit_of, AtLeast, Compared, BlockLoses}
use Rattle.floor.proofs.Prefix.{less-take, part_after, part_same, after-all}
use Rattle.floor.proofs.Least.{first_bit}

-- at bit g of a block: x comes after z, or has its first g bits, and left losses more make all
abbrev pub Stands : (y z x : List ℕ) (g left all : ℕ) → Type 0
Stands y z x g left all = Less z x ⊎ ((take g x ≡ take g z) × (losses (take g x) y + left ≡ all))

-- the w bits that are left of the block: they are matched with the received row from place p on, and at their end x has
-- lost all
pub record Rest (y z x : List ℕ) (g w left all p : ℕ) : Type 0 where
  pub some : 0 < w
  pub in_z : g + w ≤ length z
  pub in_x : g + w ≤ length x
  pub place : p + all ≡ g + left
  pub end : losses (take (g + w) x) y ≡ all

-- the row x has nb bits from a place on, d losses before them and a among them, and is at least z up to them
pub record Under (y z : List ℕ) (from nb d a : ℕ) (x : List ℕ) : Type 0 where
  pub bits : AllBits x
  pub long : from + nb ≤ length x
  pub before : losses (take from x) y ≡ d
  pub inside : losses (take (from + nb) x) y ≡ d + a
  pub least : AtLeast from z x

-- the first bit of the least string there
pub record Bit (y : List ℕ) (p left w next lost bit : ℕ) : Type 0 where
  pub next_is : next ≡ next_bit y p
  pub lost_is : lost ≡ least_lost next left w
  pub bit_is : bit ≡ bit_of next lost

module _ (z x : List ℕ) (zb : AllBits z) (xb : AllBits x) where
  -- ---- k bits of x that are known
  module _ (g k : ℕ) (zl : g + k ≤ length z) (xl : g + k ≤ length x) where
    pub known-after : number k (drop g z) < number k (drop g x) → AtLeast g z x → Less z x
    known-after l = ⊎_elim (λ a. a) (λ e. part_after z x zb xb g k zl xl e l)

    pub known_same : number k (drop g x) ≡ number k (drop g z) → AtLeast g z x → AtLeast (g + k) z x
    known_same s = ⊎_elim inl (λ e. inr (part_same z x zb xb g k zl xl e s))

  -- ---- the next bit of x, by the least
  module _ (y : List ℕ) (yb : AllBits y) {g w left all p next lost bit : ℕ} (r : Rest y z x g w left all p)
      (b : Bit y p left w next lost bit) where
    in_z : g + 1 ≤ length z
    in_z = omega (arith, r.some, r.in_z)

    in_x : g + 1 ≤ length x
    in_x = omega (arith, r.some, r.in_x)

    first : losses (take g x) y + left ≡ all
        → (bit < number 1 (drop g x))
        ⊎ ((number 1 (drop g x) ≡ bit) × (losses (take (g + 1) x) y ≡ losses (take g x) y + lost))
    first s =
        let end = r.end in
        let e : ℕ = losses (take g x) y in
        rw (b.bit_is, b.lost_is, b.next_is)
        (first_bit x y xb yb g e left p (omega (arith, r.place)) refl w r.some r.in_x (omega arith))

    -- where the least is above z's, x comes after z
    pub bit_after : number 1 (drop g z) < bit → Stands y z x g left all → Less z x
    bit_after l = ⊎_elim (λ a. a) (λ s.
        part_after z x zb xb g 1 in_z in_x s.0 (⊎_elim (λ i. omega arith) (λ i. omega (arith, i.0)) (first s.1)))

    -- where it is z's, x stands with it at the next bit
    pub bit_same : bit ≡ number 1 (drop g z) → (rest : ℕ) → rest + lost ≡ left → Stands y z x g left all
        → Stands y z x (g + 1) rest all
    bit_same e rest f = ⊎_elim inl (λ s.
        ⊎_elim
        (λ i. inl (part_after z x zb xb g 1 in_z in_x s.0 (omega arith)))
        (λ i. inr (part_same z x zb xb g 1 in_z in_x s.0 (i.0 ∙ e), omega (arith, i.1, s.1)))
        (first s.1))

-- ---- chunk c of a row in hand
module _ (l : Layout) (z x : List ℕ) (zb : AllBits z) (row : Row (row_bits l) x) (long : row_bits l ≤ length z) (c v : ℕ)
    (h : c < l.l1 * l.l2) (own : get_or (values l x) c 0 ≡ v) where
  room : c * l.nc + l.nc ≤ row_bits l
  room = field_room (l.l1 * l.l2) l.nc c h

  value : number l.nc (drop (c * l.nc) x) ≡ v
  value = sym (value-at l x c h) ∙ own

  pub chunk-after : number l.nc (drop (c * l.nc) z) < v → AtLeast (c * l.nc) z x → Less z x
  chunk-after i =
      let r = room in
      known-after z x zb row.1 (c * l.nc) l.nc (omega arith) (omega (arith, row.0)) (omega (arith, value))

  pub chunk-same : v ≡ number l.nc (drop (c * l.nc) z) → AtLeast (c * l.nc) z x → AtLeast ((c + 1) * l.nc) z x
  chunk-same i =
      let r = room in
      let e : (c + 1) * l.nc ≡ c * l.nc + l.nc = omega (arith, add-mul c 1 l.nc, one-mul l.nc) in
      rw e (known_same z x zb row.1 (c * l.nc) l.nc (omega arith) (omega (arith, row.0)) (value ∙ i))

-- ---- block b of a row under the first i counts of a pattern loses just its count
next_block : (b w : ℕ) → (b + 1) * w ≡ b * w + w
next_block b w = omega (arith, add-mul b 1 w, one-mul w)

pub own-loses : (l : Layout) (y counts : List ℕ) (i : ℕ) (x : List ℕ) → OwnCounts l y counts i x → (b : ℕ) → b < i
    → b < length counts → BlockLoses l y b (in_all (take b counts)) (get_or counts b 0) x
own-loses l y counts i x own b h k =
    record {
      before = own b (omega arith);
      inside = rw (← next_block b (block_bits l), ← total-next counts b k) (own (b + 1) (omega arith));
    }

pub next-at-least : (b w : ℕ) (z x : List ℕ) → AtLeast (b * w + w) z x → AtLeast ((b + 1) * w) z x
next-at-least b w z x h = rw (next_block b w) h

-- ---- the answers of a comparison
module _ {g e : ℕ} {z x : List ℕ} where
  pub compared_same : (AtLeast g z x → AtLeast e z x) → Compared g e z x Equal
  compared_same f = record { after = λ i. cc; same = λ i. f }

  -- of two numbers that are not the same
  pub compared_unlike : {answer : Ordering} (own held : ℕ) → answer ≡ nat_cmp own held → (answer ≡ Equal → ⊥)
      → (held < own → AtLeast g z x → Less z x) → Compared g e z x answer
  compared_unlike {answer} own held r n f =
      record { after = λ i. f (rw i at (ranked own held answer r)); same = λ i. absurd (n i) }

-- ---- what comes after the last row held is known, where more were found than fit
module _ (s : Sought) (list : List ℕ) (kept : Kept) where
  abbrev c : ℕ
  c = kept.count

  -- the bytes of a row
  abbrev w : ℕ
  w = bytes_for s.bits

  -- the last row, packed
  abbrev pub lastRow : List ℕ
  lastRow = take w (drop ((c - 1) * w) list)

  rows-many : length (held_of s list kept).rows ≡ c
  rows-many = length-map (cut c w list) (λ (b : List ℕ). take s.bits (unpack b)) ∙ length_cut w c list

  last-is : 0 < c → get_or (held_of s list kept).rows (c - 1) [] ≡ take s.bits (unpack lastRow)
  unfolding unpack
  last-is some =
      let row : List ℕ → List ℕ = λ b. take s.bits (unpack b) in
      let none : row [] ≡ [] = take-nil s.bits in
      rw none at (get_or-map row (cut c w list) (c - 1) []) ∙ ap row (row_at w (c - 1) c list (omega arith))

  -- where none fits, all are known
  pub none-known : c ≡ 0 → kept.more ≡ true → (x : List ℕ) → Known (held_of s list kept) x
  unfolding cut
  none-known e more x = rw e (inr (more, tt))

  module _ {cap : ℕ} (held : Holding s cap list kept) (some : 0 < c) where
    pub last-known : kept.more ≡ true → (x : List ℕ) → Row s.bits x → Less (unpack lastRow) x
        → Known (held_of s list kept) x
    last-known more x row less =
        let many = rows-many in
        let rows : List (List ℕ) = (held_of s list kept).rows in
        let less = less-take s.bits (unpack lastRow) x (omega (arith, row.0)) less in
        inr (more, after-all rows x held.well.ascending (omega arith) (rw (many, last-is some) less))

    -- it stands in the slice
    pub last-room : (c - 1) * w + w ≤ length list
    last-room =
        let few : c ≤ cap = omega (arith, held.well.at_most, rows-many) in
        omega (arith, row_fits (c - 1) c w (omega arith), mul-le-mul_right w few, held.room)
