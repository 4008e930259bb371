-- What a legal layout bounds, and how a row is cut. Assumes nothing.
use Prim.Native.Nat.{ℕ, ◌+◌, ◌-◌, ◌*◌, ◌^◌, ◌<◌, ◌≤◌}
use mathlib.Core.Path.{◌≡◌, sym}
use mathlib.Core.Bool.{true, false, ◌&&◌, and-true}
use native.Mathlib.Nat.{mul-le-mul, mul-le-mul_left, mul-le-mul_right, mul-one, one-mul, mul_assoc, mul_comm}
use native.Mathlib.Omega.{arith}
use borrow.Author.Tests.{leb-true, le-leb}
use lib.Dec.{leb}
use lib.Pow.{pow_mono}
use Rattle.bits.specs.Bits.{longest, most_chunks, most_in_line, longest_line}
use Rattle.bits.proofs.Laws.{refuted, both_left, both_right}
use Rattle.message.specs.Layout.{legal, row_bits, block_bits, string_bits}
use Rattle.message.specs.declared.Layout.{Layout}
use Rattle.message.proofs.Fields.{field_room}

-- what "legal" says, number by number; that a row has fewer chunks than the field has elements is for its checks alone
pub record Bounds (l : Layout) : Type 0 where
  pub l1_low : 1 ≤ l.l1
  pub l2_low : 1 ≤ l.l2
  pub nc_low : 3 ≤ l.nc
  pub nc_high : l.nc ≤ 8
  pub chunks : l.l1 * l.l2 ≤ most_chunks
  pub l1_high : l.l1 ≤ most_in_line
  pub l2_high : l.l2 ≤ most_in_line
  pub r_high : l.r ≤ 16
  pub field : 0 < l.r → l.l1 * l.l2 ≤ 2 ^ l.nc - 1

pub legal_bounds : (l : Layout) → legal l ≡ true → Bounds l
unfolding legal
legal_bounds l e =
    let e5 =
    both_left (leb 1 l.l1 && leb 1 l.l2 && leb 3 l.nc && leb l.nc 8 && leb (l.l1 * l.l2) (2 ^ l.nc - 1))
    (leb l.r 16) e in
    let e4 =
    both_left (leb 1 l.l1 && leb 1 l.l2 && leb 3 l.nc && leb l.nc 8) (leb (l.l1 * l.l2) (2 ^ l.nc - 1))
    e5 in
    let e3 = both_left (leb 1 l.l1 && leb 1 l.l2 && leb 3 l.nc) (leb l.nc 8) e4 in
    let e2 = both_left (leb 1 l.l1 && leb 1 l.l2) (leb 3 l.nc) e3 in
    let one : 1 ≤ l.l1 = leb-true 1 l.l1 (both_left (leb 1 l.l1) (leb 1 l.l2) e2) in
    let two : 1 ≤ l.l2 = leb-true 1 l.l2 (both_right (leb 1 l.l1) (leb 1 l.l2) e2) in
    let short : l.nc ≤ 8 =
    leb-true l.nc 8 (both_right (leb 1 l.l1 && leb 1 l.l2 && leb 3 l.nc) (leb l.nc 8) e4) in
    let elements : l.l1 * l.l2 ≤ 2 ^ l.nc - 1 =
    leb-true (l.l1 * l.l2) (2 ^ l.nc - 1)
    (both_right (leb 1 l.l1 && leb 1 l.l2 && leb 3 l.nc && leb l.nc 8)
    (leb (l.l1 * l.l2) (2 ^ l.nc - 1)) e5) in
    let few : l.l1 * l.l2 ≤ most_chunks = omega (arith, pow_mono {i = l.nc} {j = 8} short) in
    record {
      l1_low = one;
      l2_low = two;
      nc_low = leb-true 3 l.nc (both_right (leb 1 l.l1 && leb 1 l.l2) (leb 3 l.nc) e3);
      nc_high = short;
      chunks = few;
      l1_high = omega (arith, mul-le-mul_left l.l1 two, mul-one l.l1);
      l2_high = omega (arith, mul-le-mul_right l.l2 one, one-mul l.l2);
      field = λ h. elements;
      r_high =
          leb-true l.r 16
          (both_right (leb 1 l.l1 && leb 1 l.l2 && leb 3 l.nc && leb l.nc 8
          && leb (l.l1 * l.l2) (2 ^ l.nc - 1)) (leb l.r 16) e);
    }

-- a layout that breaks a bound is not legal
pub illegal : (l : Layout) → (Bounds l → ⊥) → false ≡ legal l
illegal l n = refuted (legal l) (λ e. n (legal_bounds l e))

-- where the other bounds hold, the number of chunks decides
pub legal_by_chunks : (l : Layout) → 1 ≤ l.l1 → 1 ≤ l.l2 → 3 ≤ l.nc → l.nc ≤ 8 → l.r ≤ 16
    → leb (l.l1 * l.l2) (2 ^ l.nc - 1) ≡ legal l
unfolding legal
legal_by_chunks l a b c d e =
    simp (le-leb 1 l.l1 a, le-leb 1 l.l2 b, le-leb 3 l.nc c, le-leb l.nc 8 d, le-leb l.r 16 e, and-true)

-- what follows of the products
pub record Sizes (l : Layout) : Type 0 where
  pub chunks : l.l1 * l.l2 ≤ most_chunks
  pub l1_high : l.l1 ≤ most_in_line
  pub l2_high : l.l2 ≤ most_in_line
  pub row : row_bits l ≤ longest
  pub block : block_bits l ≤ longest_line
  pub string : string_bits l ≤ longest_line
  pub l1_block : l.l1 * block_bits l ≡ row_bits l

pub sizes : (l : Layout) → Bounds l → Sizes l
sizes l b =
    record {
      chunks = b.chunks;
      l1_high = b.l1_high;
      l2_high = b.l2_high;
      row = mul-le-mul b.chunks b.nc_high;
      block = mul-le-mul b.l2_high b.nc_high;
      string = omega (arith, mul-le-mul b.nc_high b.l1_high);
      l1_block = sym (mul_assoc l.l1 l.l2 l.nc);
    }

-- chunk j of block i lies within its row, its block and its chunk-string: it is chunk i * l2 + j of the row
pub record Lies (l : Layout) (i j : ℕ) : Type 0 where
  pub inside : i * l.l2 + j < l.l1 * l.l2
  pub low : i * l.l2 + j < most_chunks
  pub room : (i * l.l2 + j) * l.nc + l.nc ≤ row_bits l
  pub in_row : (i * l.l2 + j) * l.nc ≤ longest
  pub in_block : j * l.nc ≤ longest_line
  pub in_string : i * l.nc ≤ longest_line

pub chunk_lies : (l : Layout) → legal l ≡ true → (i j : ℕ) → i < l.l1 → j < l.l2 → Lies l i j
chunk_lies l e i j h g =
    let b = legal_bounds l e in
    let z = sizes l b in
    let c : i * l.l2 + j < l.l1 * l.l2 = omega (arith, field_room l.l1 l.l2 i h) in
    let room = field_room (l.l1 * l.l2) l.nc (i * l.l2 + j) c in
    record {
      inside = c;
      low = omega (arith, b.chunks);
      room = room;
      in_row = omega (arith, room, z.row);
      in_block = omega (arith, field_room l.l2 l.nc j g, z.block);
      in_string = omega (arith, field_room l.l1 l.nc i h, z.string, mul_comm l.l1 l.nc);
    }

-- a chunk-string is no longer than a line
pub string_high : (l : Layout) → legal l ≡ true → l.l1 * l.nc ≤ longest_line
string_high l e = omega (arith, (sizes l (legal_bounds l e)).string, mul_comm l.l1 l.nc)

-- ---- the bounds one by one
module _ (l : Layout) (e : legal l ≡ true) where
  pub l1_most : l.l1 ≤ most_in_line
  l1_most = (legal_bounds l e).l1_high

  pub l2_most : l.l2 ≤ most_in_line
  l2_most = (legal_bounds l e).l2_high

  pub nc_most : l.nc ≤ 8
  nc_most = (legal_bounds l e).nc_high

  pub r_most : l.r ≤ 16
  r_most = (legal_bounds l e).r_high

  pub chunks_most : l.l1 * l.l2 ≤ most_chunks
  chunks_most = (legal_bounds l e).chunks

  pub row_most : row_bits l ≤ longest
  row_most = (sizes l (legal_bounds l e)).row

  pub block_most : block_bits l ≤ longest_line
  block_most = (sizes l (legal_bounds l e)).block

  pub string_most : string_bits l ≤ longest_line
  string_most = (sizes l (legal_bounds l e)).string

-- the same, for a tactic's list
pub ruleset most = (l1_most, l2_most, nc_most, r_most, chunks_most, row_most, block_most, string_most)
