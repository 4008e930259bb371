-- "The longest message has 154 bytes": one test, computed over all legal block and chunk counts of all six fields.
-- Assumes nothing.
use Prim.Native.Nat.{ℕ, zero, suc, ◌+◌, ◌*◌, ◌/◌, ◌≤◌}
use mathlib.Core.Path.{◌≡◌, refl}
use mathlib.Core.Bool.{Bool, true, ◌&&◌}
use mathlib.Core.Logic.{⊎_elim}
use mathlib.Core.List.{List}
use native.Mathlib.Nat.{mul-le-mul_right, mul_comm, le-div_iff_mul-le}
use native.Mathlib.Omega.{arith}
use borrow.Author.Tests.{leb-true}
use lib.Dec.{leb}
use lib.ListN.{length, drop, length-drop}
use Rattle.bits.specs.Bits.{most_chunks, most_in_line, bytes_for}
use Rattle.bits.proofs.Laws.{lt_or_ge, both_left, both_right}
use Rattle.message.specs.Layout.{legal, block_bits, string_bits}
use Rattle.message.specs.Message.{width, fields_length, message_bytes}
use Rattle.message.specs.declared.Layout.{Layout}
use Rattle.message.proofs.Fields.{width-most}
use Rattle.message.proofs.Legal.{Bounds, Sizes, legal_bounds, sizes}

-- the fields of a x b chunks of nc bits and 16 checks take at most 1,160 bits, that is 145 bytes
short : (nc a b : ℕ) → Bool
unfolding width
short nc a b = leb (a * width (b * nc) + b * width (nc * a) + 16 * nc) 1160

-- the test holds of every number from 1 to n
up_to : (ℕ → Bool) → ℕ → Bool
up_to f zero = true
up_to f (suc n) = f (suc n) && up_to f n

up_to_at : (f : ℕ → Bool) (n k : ℕ) → up_to f n ≡ true → 1 ≤ k → k ≤ n → f k ≡ true
unfolding up_to
up_to_at f zero k e lo hi = absurd (omega arith)
up_to_at f (suc n) k e lo hi =
    ⊎_elim (λ h. up_to_at f n k (both_right (f (suc n)) (up_to f n) e) lo (omega arith))
    (λ h. let same : k ≡ suc n = omega arith in rw same (both_left (f (suc n)) (up_to f n) e))
    (lt_or_ge k (suc n))

-- every count of blocks and of chunks whose product is at most that of a row
all_short : ℕ → Bool
unfolding up_to short
all_short nc = up_to (λ (a : ℕ). up_to (short nc a) (most_chunks / a)) most_in_line

-- the one computation
tested : up_to all_short 8 ≡ true
unfolding up_to all_short
tested = refl

short-at : (nc a b : ℕ) → 1 ≤ nc → nc ≤ 8 → 1 ≤ a → 1 ≤ b → a * b ≤ most_chunks → a ≤ most_in_line → short nc a b ≡ true
unfolding all_short
short-at nc a b lo hi la lb h ha =
    up_to_at (short nc a) (most_chunks / a) b
    (up_to_at (λ (a : ℕ). up_to (short nc a) (most_chunks / a)) most_in_line a (up_to_at all_short 8 nc tested lo hi) la ha)
    lb
    ((le-div_iff_mul-le la).1 (rw (mul_comm b a) h))

-- the fields of a legal layout take at most 1,160 bits
pub fields-high : (l : Layout) → legal l ≡ true → fields_length l ≤ 1160
unfolding fields_length short
fields-high l e =
    let b : Bounds l = legal_bounds l e in
    let z : Sizes l = sizes l b in
    omega (
      arith,
      leb-true (l.l1 * width (l.l2 * l.nc) + l.l2 * width (l.nc * l.l1) + 16 * l.nc) 1160
          (short-at l.nc l.l1 l.l2 (omega (arith, b.nc_low)) b.nc_high b.l1_low b.l2_low z.chunks
          z.l1_high),
      mul-le-mul_right l.nc b.r_high,
    )

pub message-high : (l : Layout) → legal l ≡ true → message_bytes l ≤ 154
unfolding message_bytes
message-high l e = omega (arith, fields-high l e)

-- what stands after the head of a message that is as long as it should be
pub record Rest (l : Layout) (s : List ℕ) : Type 0 where
  pub long : 9 ≤ length s
  pub whole : length s ≡ 9 + length (drop 9 s)
  pub bytes : length (drop 9 s) ≡ bytes_for (fields_length l)
  pub few : length (drop 9 s) ≤ 145
  pub bits : fields_length l ≤ length (drop 9 s) * 8
  pub low : fields_length l ≤ 1160
  pub block_width : width (block_bits l) ≤ 11
  pub string_width : width (string_bits l) ≤ 11
  pub block_fields : l.l1 * width (block_bits l) ≤ length (drop 9 s) * 8
  pub string_fields : l.l1 * width (block_bits l) + l.l2 * width (string_bits l) ≤ length (drop 9 s) * 8
  pub all-fields : l.l1 * width (block_bits l) + l.l2 * width (string_bits l) + l.r * l.nc ≤ length (drop 9 s) * 8

pub after-head : (l : Layout) (s : List ℕ) → legal l ≡ true → length s ≡ message_bytes l → Rest l s
unfolding message_bytes fields_length
after-head l s e n =
    let d = length-drop 9 s in
    let f = fields-high l e in
    let z : Sizes l = sizes l (legal_bounds l e) in
    record {
      long = omega arith;
      whole = omega arith;
      bytes = omega arith;
      few = omega arith;
      bits = omega arith;
      low = f;
      block_width = width-most 11 (block_bits l) (omega (arith, z.block));
      string_width = width-most 11 (string_bits l) (omega (arith, z.string));
      block_fields = omega arith;
      string_fields = omega arith;
      all-fields = omega arith;
    }

-- as many blocks as there can be, of one chunk of 8 bits, with 16 checks have a message of just that length
message-longest : message_bytes (record { l1 = most_in_line; l2 = 1; nc = 8; r = 16 }) ≡ 154
unfolding message_bytes
message-longest = refl
