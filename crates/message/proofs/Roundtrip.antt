-- The message of a row can be read: what writing puts into it is what reading gets of it. Assumes nothing.
use Prim.Native.Nat.{ℕ, suc, ◌^◌, ◌<◌, ◌≤◌}
use mathlib.Core.Path.{◌≡◌}
use mathlib.Core.Bool.{true}
use mathlib.Core.List.{List, [], ◌∷◌, map}
use native.Mathlib.Omega.{arith}
use lib.ListN.{length, get_or}
use Rattle.bits.specs.Bits.{AllBits, number}
use Rattle.field.specs.Field.{check}
use Rattle.field.proofs.Linear.{check_element}
use Rattle.message.specs.Encoding.{AtMost, FitAll, Encodable}
use Rattle.message.specs.Layout.{legal, row_bits, block_bits, string_bits, chunks}
use Rattle.message.specs.Message.{block_sums, string_sums, checks, message}
use Rattle.message.specs.Read.{message_refusal}
use Rattle.message.specs.declared.Layout.{Layout}
use Rattle.message.proofs.Cutting.{each_number, length_block_sums, length_string_sums, length-checks, block_sum_low, string_sum_low, chunk_elements}
use Rattle.message.proofs.Legal.{Bounds, legal_bounds}
use Rattle.message.proofs.Messages.{ReadsAs, reads_encoded, encoded_fit}

-- ranges by places
at-most-each : (w : ℕ) (vs : List ℕ) → ((i : ℕ) → i < length vs → get_or vs i 0 ≤ w) → AtMost w vs
at-most-each w [] h = tt
at-most-each w (v ∷ vs) h = (h 0 (omega arith), at-most-each w vs (λ i k. h (suc i) (omega arith)))

fit-each : (w : ℕ) (vs : List ℕ) → ((i : ℕ) → i < length vs → get_or vs i 0 < 2 ^ w) → FitAll w vs
fit-each w [] h = tt
fit-each w (v ∷ vs) h = (h 0 (omega arith), fit-each w vs (λ i k. h (suc i) (omega arith)))

module _ (l : Layout) (x : List ℕ) (e : legal l ≡ true) (a : AllBits x) (n : length x ≡ row_bits l) where
  check-low : (i : ℕ) → i < l.r → get_or (checks l x) i 0 < 2 ^ l.nc
  unfolding checks
  check-low i h =
      let b : Bounds l = legal_bounds l e in
      rw (each_number (λ (k : ℕ). check l.nc k (map (number l.nc) (chunks l x))) l.r i h)
      (check_element l.nc b.nc_low b.nc_high i (map (number l.nc) (chunks l x)) (chunk_elements l x a))

  -- a row's sums and checks can be encoded
  pub row_encodable : Encodable l (block_sums l x) (string_sums l x) (checks l x)
  row_encodable = record {
    is_legal = e;
    block_count = length_block_sums l x;
    string_count = length_string_sums l x;
    check-count = length-checks l x;
    block_range =
        at-most-each (block_bits l) (block_sums l x)
        (λ i h. block_sum_low l x n i (omega (arith, h, length_block_sums l x)));
    string_range =
        at-most-each (string_bits l) (string_sums l x)
        (λ j h. string_sum_low l x n j (omega (arith, h, length_string_sums l x)));
    check_range = fit-each l.nc (checks l x) (λ i h. check-low i (omega (arith, h, length-checks l x)));
  }

  -- its message is not refused
  pub message-fit : message_refusal (message l x) ≡ 0
  unfolding message
  message-fit = encoded_fit l (block_sums l x) (string_sums l x) (checks l x) row_encodable

  -- reading it gives the layout, the sums and the checks back
  pub message-reads : ReadsAs (message l x) l (block_sums l x) (string_sums l x) (checks l x)
  unfolding message
  message-reads = reads_encoded l (block_sums l x) (string_sums l x) (checks l x) row_encodable
