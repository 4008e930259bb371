-- How a row is cut into blocks, chunks and chunk-strings: how many pieces there are, how long each is and where it
-- stands; and which sums they have. Assumes nothing.
use Prim.Native.Nat.{ℕ, zero, suc, ◌+◌, ◌*◌, ◌<◌, ◌≤◌}
use mathlib.Core.Path.{◌≡◌, refl, sym, ap, ap₂, ◌∙◌}
use mathlib.Core.List.{List, [], ◌∷◌, ◌++◌, flat_map, map}
use native.Mathlib.Nat.{add_comm, add-zero, zero-add, zero-mul, suc-mul, mul_comm, mul_assoc}
use native.Mathlib.Numerals.{add-one}
use native.Mathlib.Omega.{arith}
use lib.ListN.{length, get_or, take, drop, length-append, length-drop, length-map, drop_of_length-le}
use lib.Pow.{pow_pos}
use lib.Seq.{drop-cons, drop-drop, take-take, length-take-le}
use Rattle.bits.specs.Bits.{cut, AllBits, number}
use Rattle.bits.proofs.Laws.{bits-take, bits-drop, number-take}
use Rattle.field.specs.Field.{Elements, check}
use Rattle.vt.specs.Sum.{sum}
use Rattle.message.specs.Encoding.{FitAll}
use Rattle.message.specs.Layout.{row_bits, block_bits, string_bits, numbers, blocks, chunk, chunk_string, chunk_strings, chunks}
use Rattle.message.specs.Message.{block_sums, string_sums, checks}
use Rattle.message.specs.Read.{fields}
use Rattle.message.specs.declared.Layout.{Layout}
use Rattle.message.proofs.Fields.{fields_fit, field_room}
use Rattle.message.proofs.Positions.{sum-high}

-- ---- pieces of one length
pub length_cut : (n w : ℕ) (x : List ℕ) → length (cut n w x) ≡ n
unfolding cut
length_cut zero w x = refl
length_cut (suc n) w x = ap suc (length_cut n w (drop w x))

-- piece i starts i × w elements on
pub cut_at : (n w i : ℕ) (x : List ℕ) → i < n → get_or (cut n w x) i [] ≡ take w (drop (i * w) x)
unfolding cut
cut_at zero w i x h = absurd (omega arith)
cut_at (suc n) w zero x h = rw (zero-mul w) refl
cut_at (suc n) w (suc i) x h =
    cut_at n w i (drop w x) (omega arith)
    ∙ ap (take w) (drop-drop (i * w) w x ∙ ap (λ (m : ℕ). drop m x) (sym (suc-mul i w ∙ add_comm (i * w) w)))

pub length-numbers : (i n : ℕ) → length (numbers i n) ≡ n
unfolding numbers
length-numbers i zero = refl
length-numbers i (suc n) = ap suc (length-numbers (suc i) n)

pub numbers-at : (i n k : ℕ) → k < n → get_or (numbers i n) k 0 ≡ i + k
unfolding numbers
numbers-at i zero k h = absurd (omega arith)
numbers-at i (suc n) zero h = sym (add-zero i)
numbers-at i (suc n) (suc k) h = numbers-at (suc i) n k (omega arith) ∙ omega arith

-- a map of a list that is long enough, by places
pub map_at : {A B : Type 0} (f : A → B) (xs : List A) (i : ℕ) (d : A) (e : B) → i < length xs
    → get_or (map f xs) i e ≡ f (get_or xs i d)
map_at f [] i d e h = absurd (omega arith)
map_at f (x ∷ xs) zero d e h = refl
map_at f (x ∷ xs) (suc i) d e h = map_at f xs i d e (omega arith)

-- what is made of each number from 0 on, by places
pub each_number : (f : ℕ → ℕ) (n i : ℕ) → i < n → get_or (map f (numbers 0 n)) i 0 ≡ f i
each_number f n i h =
    map_at f (numbers 0 n) i 0 0 (omega (arith, length-numbers 0 n)) ∙ ap f (numbers-at 0 n i h ∙ zero-add i)

-- chunks as numbers are consecutive fields
pub number_cut : (n k : ℕ) (x : List ℕ) → map (number k) (cut n k x) ≡ fields n k x
unfolding cut fields
number_cut zero k x = refl
number_cut (suc n) k x = ap₂ (λ (a : ℕ) (b : List ℕ). a ∷ b) (number-take k x) (number_cut n k (drop k x))

-- numbers that fit k bits are elements of the field of k
fit_elements : (k : ℕ) (vs : List ℕ) → FitAll k vs → Elements k vs
fit_elements k [] f i = pow_pos k
fit_elements k (v ∷ vs) f zero = f.0
fit_elements k (v ∷ vs) f (suc i) = fit_elements k vs f.1 i

-- what stands inside a piece stands in the whole
take-inside : (a b c : ℕ) (y : List ℕ) → b + a ≤ c → take a (drop b (take c y)) ≡ take a (drop b y)
take-inside a zero c y h = take-take a c y (omega arith)
take-inside a (suc b) zero y h = absurd (omega arith)
take-inside a (suc b) (suc c) [] h = refl
take-inside a (suc b) (suc c) (v ∷ y) h = take-inside a b c y (omega arith)

-- pieces joined, each of k bits
module _ (f : List ℕ → List ℕ) where
  pub length_joined : (k : ℕ) (ps : List (List ℕ)) → ((i : ℕ) → i < length ps → length (f (get_or ps i [])) ≡ k)
      → length (flat_map f ps) ≡ length ps * k
  unfolding flat_map
  length_joined k [] h = sym (zero-mul k)
  length_joined k (p ∷ ps) h =
      length-append (f p) (flat_map f ps)
      ∙ omega (arith, h 0 (omega arith), length_joined k ps (λ i e. h (suc i) (omega arith)), suc-mul (length ps) k)

  -- the pieces from piece i on, joined
  pub joined_next : (ps : List (List ℕ)) (i : ℕ) → i < length ps
      → flat_map f (drop i ps) ≡ f (get_or ps i []) ++ flat_map f (drop (i + 1) ps)
  unfolding flat_map
  joined_next ps i h = rw (add-one i, drop-cons ps i [] h) refl

  pub joined_end : (ps : List (List ℕ)) (i : ℕ) → length ps ≤ i → flat_map f (drop i ps) ≡ []
  unfolding flat_map
  joined_end ps i h = rw (drop_of_length-le ps h) refl

-- ---- the pieces of a row
module _ (l : Layout) (x : List ℕ) where
  pub block_at : (i : ℕ) → i < l.l1 → get_or (blocks l x) i [] ≡ take (block_bits l) (drop (i * block_bits l) x)
  unfolding blocks
  block_at i h = cut_at l.l1 (block_bits l) i x h

  pub length-blocks : length (blocks l x) ≡ l.l1
  unfolding blocks
  length-blocks = length_cut l.l1 (block_bits l) x

  pub length-chunk-strings : length (chunk_strings l x) ≡ l.l2
  unfolding chunk_strings
  length-chunk-strings = length-map (numbers 0 l.l2) (chunk_string l x) ∙ length-numbers 0 l.l2

  -- chunk-strings by their places
  pub chunk_string-at : (j : ℕ) → j < l.l2 → get_or (chunk_strings l x) j [] ≡ chunk_string l x j
  unfolding chunk_strings
  chunk_string-at j h =
      map_at (chunk_string l x) (numbers 0 l.l2) j 0 [] (omega (arith, length-numbers 0 l.l2))
      ∙ ap (chunk_string l x) (numbers-at 0 l.l2 j h ∙ zero-add j)

  -- sums by the places of their strings
  pub block_sum_at : (i : ℕ) → i < l.l1 → get_or (block_sums l x) i 0 ≡ sum (take (block_bits l) (drop (i * block_bits l) x))
  unfolding block_sums
  block_sum_at i h = map_at sum (blocks l x) i [] 0 (omega (arith, length-blocks)) ∙ ap sum (block_at i h)

  pub string_sum_at : (j : ℕ) → j < l.l2 → get_or (string_sums l x) j 0 ≡ sum (chunk_string l x j)
  unfolding string_sums
  string_sum_at j h =
      map_at sum (chunk_strings l x) j [] 0 (omega (arith, length-chunk-strings)) ∙ ap sum (chunk_string-at j h)

  pub length_block_sums : length (block_sums l x) ≡ l.l1
  unfolding block_sums
  length_block_sums = length-map (blocks l x) sum ∙ length-blocks

  pub length_string_sums : length (string_sums l x) ≡ l.l2
  unfolding string_sums
  length_string_sums = length-map (chunk_strings l x) sum ∙ length-chunk-strings

  pub length-checks : length (checks l x) ≡ l.r
  unfolding checks
  length-checks =
      length-map (numbers 0 l.r) (λ (i : ℕ). check l.nc i (map (number l.nc) (chunks l x)))
      ∙ length-numbers 0 l.r

  pub chunk-numbers : map (number l.nc) (chunks l x) ≡ fields (l.l1 * l.l2) l.nc x
  unfolding chunks
  chunk-numbers = number_cut (l.l1 * l.l2) l.nc x

  -- chunks as numbers are elements of the field
  pub chunk_elements : AllBits x → Elements l.nc (map (number l.nc) (chunks l x))
  chunk_elements a =
      rw chunk-numbers (fit_elements l.nc (fields (l.l1 * l.l2) l.nc x) (fields_fit (l.l1 * l.l2) l.nc x a))

  -- chunk j of block i stands in the row
  pub chunk-at : (i j : ℕ) → i < l.l1 → j < l.l2
      → chunk l j (get_or (blocks l x) i []) ≡ take l.nc (drop (i * block_bits l + j * l.nc) x)
  unfolding chunk
  chunk-at i j h k =
      ap (λ (b : List ℕ). take l.nc (drop (j * l.nc) b)) (block_at i h)
      ∙ take-inside l.nc (j * l.nc) (block_bits l) (drop (i * block_bits l) x) (field_room l.l2 l.nc j k)
      ∙ ap (take l.nc) (drop-drop (j * l.nc) (i * block_bits l) x)

  -- pieces of a string of bits are bits
  pub bits_block : AllBits x → (i : ℕ) → AllBits (take (block_bits l) (drop (i * block_bits l) x))
  bits_block a i = bits-take (block_bits l) (drop (i * block_bits l) x) (bits-drop (i * block_bits l) x a)

  -- a row of the length that its layout gives
  module _ (n : length x ≡ row_bits l) where
    pub block_room : (i : ℕ) → i < l.l1 → i * block_bits l + block_bits l ≤ length x
    block_room i h = omega (arith, field_room l.l1 (block_bits l) i h, n, mul_assoc l.l1 l.l2 l.nc)

    pub chunk-room : (i j : ℕ) → i < l.l1 → j < l.l2 → i * block_bits l + j * l.nc + l.nc ≤ length x
    chunk-room i j h k = omega (arith, block_room i h, field_room l.l2 l.nc j k)

    pub length_block : (i : ℕ) → i < l.l1 → length (take (block_bits l) (drop (i * block_bits l) x)) ≡ block_bits l
    length_block i h =
        length-take-le (block_bits l) (drop (i * block_bits l) x) (simp length-drop (omega (arith, block_room i h)))

    pub length-chunk : (i j : ℕ) → i < l.l1 → j < l.l2 → length (chunk l j (get_or (blocks l x) i [])) ≡ l.nc
    length-chunk i j h k =
        ap length (chunk-at i j h k)
        ∙ length-take-le l.nc (drop (i * block_bits l + j * l.nc) x)
        (simp length-drop (omega (arith, chunk-room i j h k)))

    pub length-chunk_string : (j : ℕ) → j < l.l2 → length (chunk_string l x j) ≡ string_bits l
    unfolding chunk_string
    length-chunk_string j k =
        length_joined (chunk l j) l.nc (blocks l x) (λ i h. length-chunk i j (omega (arith, h, length-blocks)) k)
        ∙ ap (λ (m : ℕ). m * l.nc) length-blocks ∙ mul_comm l.l1 l.nc

-- ---- sums are in range
module _ (l : Layout) (x : List ℕ) (n : length x ≡ row_bits l) where
  pub block_sum_low : (i : ℕ) → i < l.l1 → get_or (block_sums l x) i 0 ≤ block_bits l
  block_sum_low i h =
      rw (block_sum_at l x i h)
      (omega (arith, sum-high (take (block_bits l) (drop (i * block_bits l) x)), length_block l x n i h))

  pub string_sum_low : (j : ℕ) → j < l.l2 → get_or (string_sums l x) j 0 ≤ string_bits l
  string_sum_low j h =
      rw (string_sum_at l x j h) (omega (arith, sum-high (chunk_string l x j), length-chunk_string l x n j h))
