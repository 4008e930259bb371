-- Lines of chunks: how long a line is, where it splits, and which bits of a row it holds. The chunks of a row as
-- numbers give its bits back, its blocks and its chunk-strings are lines of them, and so the sums of a row are sums of
-- lines. Assumes nothing.
use Prim.Native.Nat.{ℕ, zero, suc, ◌+◌, ◌*◌, ◌^◌, ◌<◌, ◌≤◌}
use mathlib.Core.Path.{◌≡◌, refl, sym, ap, ap₂, ◌∙◌}
use mathlib.Core.Bool.{true}
use mathlib.Core.List.{List, ◌++◌, append_assoc, append-nil, flat_map}
use native.Mathlib.Nat.{zero-add, zero-mul, suc-mul, add-mul, one-mul, mul-one, mul_comm, mul_assoc}
use native.Mathlib.Omega.{arith}
use lib.ListN.{length, get_or, take, drop, length-append, length-drop}
use lib.Seq.{take-add, take_all, drop-drop}
use Rattle.bits.specs.Bits.{AllBits, number, digits}
use Rattle.bits.proofs.Laws.{length_digits, bits-append, bits-digits, bits-drop}
use Rattle.rows.specs.Order.{Row}
use Rattle.vt.specs.Sum.{sum}
use Rattle.message.specs.Layout.{legal, row_bits, block_bits, blocks, chunk, chunk_string}
use Rattle.message.specs.Message.{block_sums, string_sums}
use Rattle.message.specs.Read.{fields}
use Rattle.message.specs.declared.Layout.{Layout}
use Rattle.message.proofs.Cutting.{chunk-numbers, joined_next, joined_end, length-blocks, chunk-at, block_sum_at, string_sum_at, chunk_elements}
use Rattle.message.proofs.Fields.{field_room, fields_at, flat-fields, length_fields}
use Rattle.message.proofs.Legal.{legal_bounds, Sizes, sizes}
use Rattle.lines.specs.Lines.{values, line, Inside}

-- ---- any line
pub length-line : (nc start stride count : ℕ) (vs : List ℕ) → length (line nc start stride count vs) ≡ count * nc
unfolding line
length-line nc start stride zero vs = sym (zero-mul nc)
length-line nc start stride (suc n) vs =
    length-append (digits nc (get_or vs start 0)) (line nc (start + stride) stride n vs)
    ∙ omega (arith, length_digits nc (get_or vs start 0), length-line nc (start + stride) stride n vs, suc-mul n nc)

pub bits-line : (nc start stride count : ℕ) (vs : List ℕ) → AllBits (line nc start stride count vs)
unfolding line
bits-line nc start stride zero vs = tt
bits-line nc start stride (suc n) vs =
    bits-append (digits nc (get_or vs start 0)) (line nc (start + stride) stride n vs) (bits-digits nc (get_or vs start 0))
    (bits-line nc (start + stride) stride n vs)

-- the first chunk of a line
pub line_cons : (nc start stride n : ℕ) (vs : List ℕ)
    → line nc start stride (suc n) vs ≡ digits nc (get_or vs start 0) ++ line nc (start + stride) stride n vs
unfolding line
line_cons nc start stride n vs = refl

-- a line splits after any of its chunks
pub line_split : (nc start stride a b : ℕ) (vs : List ℕ)
    → line nc start stride (a + b) vs ≡ line nc start stride a vs ++ line nc (start + a * stride) stride b vs
unfolding line
line_split nc start stride zero b vs = let e : start + 0 * stride ≡ start = omega (arith, zero-mul stride) in
    rw (zero-add b, e) refl
line_split nc start stride (suc a) b vs =
    let e : start + stride + a * stride ≡ start + suc a * stride = omega (arith, suc-mul a stride) in
    let m : suc a + b ≡ suc (a + b) = omega arith in
    rw (m, line_split nc (start + stride) stride a b vs, e, append_assoc) refl

-- a line depends on its own chunks alone
pub line_same : (nc start stride count : ℕ) (us vs : List ℕ)
    → ((t : ℕ) → t < count → get_or us (start + t * stride) 0 ≡ get_or vs (start + t * stride) 0)
    → line nc start stride count us ≡ line nc start stride count vs
unfolding line
line_same nc start stride zero us vs h = refl
line_same nc start stride (suc n) us vs h =
    let z : start + 0 * stride ≡ start = omega (arith, zero-mul stride) in
    ap₂ (λ (p q : List ℕ). p ++ q) (ap (digits nc) (rw z at (h 0 (omega arith))))
    (line_same nc (start + stride) stride n us vs
    (λ t k.
    let e : start + suc t * stride ≡ start + stride + t * stride = omega (arith, suc-mul t stride) in
    rw e at (h (suc t) (omega arith))))

-- ---- the lines of a layout: they stand among as many numbers as a row has chunks
module _ (l : Layout) (e : legal l ≡ true) (size : ℕ) (h : l.l1 * l.l2 ≤ size) where
  pub block_inside : (i : ℕ) → i < l.l1 → Inside l.nc (i * l.l2) 1 l.l2 size
  block_inside i k =
      let z : Sizes l = sizes l (legal_bounds l e) in
      record {
        nc_high = (legal_bounds l e).nc_high;
        short = z.block;
        stride-high = omega arith;
        last = omega (arith, z.chunks, mul-one l.l2, field_room l.l1 l.l2 i k);
      }

  pub string_inside : (j : ℕ) → j < l.l2 → Inside l.nc j l.l2 l.l1 size
  string_inside j k =
      let z : Sizes l = sizes l (legal_bounds l e) in
      record {
        nc_high = (legal_bounds l e).nc_high;
        short = omega (arith, z.string, mul_comm l.l1 l.nc);
        stride-high = z.l2_high;
        last = omega (arith, z.chunks);
      }

-- ---- the chunks of a row
module _ (l : Layout) (x : List ℕ) where
  pub length-values : length (values l x) ≡ l.l1 * l.l2
  unfolding values
  length-values = ap length (chunk-numbers l x) ∙ length_fields (l.l1 * l.l2) l.nc x

  -- chunk c stands c × nc bits on
  pub value-at : (c : ℕ) → c < l.l1 * l.l2 → get_or (values l x) c 0 ≡ number l.nc (drop (c * l.nc) x)
  unfolding values
  value-at c h = rw (chunk-numbers l x) (fields_at (l.l1 * l.l2) l.nc c x h)

  module _ (row : Row (row_bits l) x) where
    -- a chunk has nc bits
    pub value_low : (c : ℕ) → get_or (values l x) c 0 < 2 ^ l.nc
    unfolding values
    value_low c = chunk_elements l x row.1 c

    pub chunk-digits : (c : ℕ) → c < l.l1 * l.l2
        → digits l.nc (get_or (values l x) c 0) ≡ take l.nc (drop (c * l.nc) x)
    unfolding fields flat_map
    chunk-digits c h =
        let y : List ℕ = drop (c * l.nc) x in
        let one : 1 * l.nc ≡ l.nc = one-mul l.nc in
        let room : 1 * l.nc ≤ length y =
        rw one (simp length-drop (omega (arith, field_room (l.l1 * l.l2) l.nc c h, row.0))) in
        let d = flat-fields 1 l.nc y (bits-drop (c * l.nc) x row.1) room in
        ap (digits l.nc) (value-at c h) ∙ rw (append-nil, one) at d

    -- neighbouring chunks are a piece of the row
    pub piece_line : (start count : ℕ) → start + count ≤ l.l1 * l.l2
        → line l.nc start 1 count (values l x) ≡ take (count * l.nc) (drop (start * l.nc) x)
    unfolding line
    piece_line start zero h = rw (zero-mul l.nc) refl
    piece_line start (suc n) h =
        let d : start * l.nc + l.nc ≡ (start + 1) * l.nc = omega (arith, add-mul start 1 l.nc, one-mul l.nc) in
        let m : suc n * l.nc ≡ l.nc + n * l.nc = omega (arith, suc-mul n l.nc) in
        let y : List ℕ = drop (start * l.nc) x in
        rw (chunk-digits start (omega arith), piece_line (start + 1) n (omega arith), m)
        (rw (take-add l.nc (n * l.nc) y, drop-drop l.nc (start * l.nc) x, d) refl)

    -- all chunks are the row
    pub row_line : line l.nc 0 1 (l.l1 * l.l2) (values l x) ≡ x
    row_line =
        piece_line 0 (l.l1 * l.l2) (omega arith)
        ∙ rw (zero-mul l.nc) (take_all (row_bits l) x (omega (arith, row.0)))

    -- block i
    pub block_line : (i : ℕ) → i < l.l1
        → get_or (block_sums l x) i 0 ≡ sum (line l.nc (i * l.l2) 1 l.l2 (values l x))
    block_line i h =
        block_sum_at l x i h
        ∙ ap sum (sym (piece_line (i * l.l2) l.l2 (field_room l.l1 l.l2 i h)
        ∙ rw (mul_assoc i l.l2 l.nc) refl))

    -- chunk-string j from block i on
    string-from : (j : ℕ) → j < l.l2 → (n i : ℕ) → i + n ≡ l.l1
        → line l.nc (i * l.l2 + j) l.l2 n (values l x) ≡ flat_map (chunk l j) (drop i (blocks l x))
    unfolding line
    string-from j k zero i e = sym (joined_end (chunk l j) (blocks l x) i (omega (arith, length-blocks l x)))
    string-from j k (suc n) i e =
        let h : i < l.l1 = omega arith in
        let m : (i * l.l2 + j) * l.nc ≡ i * block_bits l + j * l.nc =
        add-mul (i * l.l2) j l.nc ∙ ap (λ (q : ℕ). q + j * l.nc) (mul_assoc i l.l2 l.nc)
        in
        let s : i * l.l2 + j + l.l2 ≡ (i + 1) * l.l2 + j = omega (arith, add-mul i 1 l.l2, one-mul l.l2) in
        let c : i * l.l2 + j < l.l1 * l.l2 = omega (arith, field_room l.l1 l.l2 i h) in
        let b : i < length (blocks l x) = omega (arith, length-blocks l x) in
        rw (chunk-digits (i * l.l2 + j) c, m, s, string-from j k n (i + 1) (omega arith))
        (rw (joined_next (chunk l j) (blocks l x) i b, chunk-at l x i j h k) refl)

    pub string_line : (j : ℕ) → j < l.l2 → get_or (string_sums l x) j 0 ≡ sum (line l.nc j l.l2 l.l1 (values l x))
    unfolding chunk_string
    string_line j k =
        let z : 0 * l.l2 + j ≡ j = omega (arith, zero-mul l.l2) in
        string_sum_at l x j k ∙ ap sum (sym (rw z at (string-from j k l.l1 0 (zero-add l.l1))))
