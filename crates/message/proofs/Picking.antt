-- A row that is given as the numbers of its chunks: its blocks and chunk-strings are lines of chunks, and what a chunk
-- adds to the total of its line. Assumes nothing.
use Prim.Native.Nat.{ℕ, zero, suc, ◌+◌, ◌-◌, ◌*◌, ◌/◌, ◌%◌, ◌^◌, ◌<◌, ◌≤◌}
use mathlib.Core.Path.{◌≡◌, refl, sym, ap, ap₂, ◌∙◌}
use mathlib.Core.List.{List, [], ◌∷◌, ◌++◌, flat_map}
use native.Mathlib.Nat.{add-zero, add-suc, suc-add, zero-mul, suc-mul, add-mul, mul_assoc, mul-zero, div-eq_of_lt, zero-add, one-mul}
use native.Mathlib.Omega.{arith}
use lib.ListN.{length, get_or, take, drop}
use lib.Pow.{pow_mono}
use lib.Seq.{drop-cons, drop-nil, take_at, take-add, drop_at, drop-drop}
use Rattle.bits.specs.Bits.{digits}
use Rattle.bits.proofs.Laws.{length_digits}
use Rattle.vt.specs.Ones.{ones}
use Rattle.vt.specs.Sum.{total, sum}
use Rattle.vt.proofs.Weighing.{total_far, total-append}
use Rattle.message.specs.Chunks.{row_of, Chunked, picked}
use Rattle.message.specs.Layout.{row_bits, block_bits, blocks, chunk, chunk_string}
use Rattle.message.specs.Message.{block_sums, string_sums}
use Rattle.message.specs.declared.Layout.{Layout}
use Rattle.message.proofs.Cutting.{joined_next, joined_end, length-blocks, chunk-at, block_sum_at, string_sum_at}
use Rattle.message.proofs.Fields.{length-flat, field_room}

-- ---- a chunk as a byte
-- a number of nc bits has zeros before it where it is written in more
digit_none : (m nc v : ℕ) → v < 2 ^ nc → v / 2 ^ (m + nc) % 2 ≡ 0
digit_none m nc v h =
    rw (div-eq_of_lt {n = v} {m = 2 ^ (m + nc)} (omega (arith, pow_mono {i = nc} {j = m + nc} (omega arith)))) refl

wide-total : (m nc v i : ℕ) → v < 2 ^ nc → total i (digits (m + nc) v) ≡ total (i + m) (digits nc v)
unfolding total digits
wide-total zero nc v i h = rw (zero-add nc, add-zero i) refl
wide-total (suc m) nc v i h =
    rw (suc-add m nc, digit_none m nc v h, mul-zero i, add-suc i m)
    (zero-add _ ∙ wide-total m nc v (suc i) h ∙ ap (λ (k : ℕ). total k (digits nc v)) (suc-add i m))

wide-ones : (m nc v : ℕ) → v < 2 ^ nc → ones (digits (m + nc) v) ≡ ones (digits nc v)
unfolding ones digits
wide-ones zero nc v h = rw (zero-add nc) refl
wide-ones (suc m) nc v h = rw (suc-add m nc, digit_none m nc v h) (zero-add _ ∙ wide-ones m nc v h)

-- what the chunk adds to a total, from what the table says of the byte
pub chunk_adds : (nc v first : ℕ) → nc ≤ 8 → v < 2 ^ nc → 1 ≤ first
    → total 1 (digits 8 v) + first * ones (digits 8 v) ≡ total first (digits nc v) + (9 - nc) * ones (digits 8 v)
chunk_adds nc v first h k l =
    let m : ℕ = 8 - nc in
    let f : ℕ = first - 1 in
    let d : List ℕ = digits nc v in
    let n : 8 ≡ m + nc = omega arith in
    let e : total 1 (digits 8 v) ≡ total 1 d + m * ones d =
    ap (λ (j : ℕ). total 1 (digits j v)) n ∙ wide-total m nc v 1 k ∙ total_far m 1 d in
    let o : ones (digits 8 v) ≡ ones d = ap (λ (j : ℕ). ones (digits j v)) n ∙ wide-ones m nc v k in
    let a : first ≡ 1 + f = omega arith in
    let t : total first d ≡ total 1 d + f * ones d = ap (λ (j : ℕ). total j d) a ∙ total_far f 1 d in
    let p : first * ones d ≡ f * ones d + ones d = ap (λ (j : ℕ). j * ones d) (a ∙ omega arith) ∙ suc-mul f (ones d) in
    let q : (9 - nc) * ones d ≡ m * ones d + ones d = ap (λ (j : ℕ). j * ones d) (omega arith) ∙ suc-mul m (ones d) in
    rw o (omega (arith, e, t, p, q))

-- ---- lines of chunks
pub length-picked : (start stride count : ℕ) (cs : List ℕ) → length (picked start stride count cs) ≡ count
unfolding picked
length-picked start stride zero cs = refl
length-picked start stride (suc n) cs = ap suc (length-picked (start + stride) stride n cs)

-- the total from chunk k of a line on, taken apart behind it
pub line_turn : (nc start stride count k : ℕ) (cs : List ℕ) → k < count
    → total (k * nc + 1) (row_of nc (picked (start + k * stride) stride (count - k) cs))
    ≡ total (k * nc + 1) (digits nc (get_or cs (start + k * stride) 0)) + total ((k + 1) * nc + 1)
    (row_of nc (picked (start + (k + 1) * stride) stride (count - (k + 1)) cs))
unfolding picked flat_map
line_turn nc start stride count k cs h =
    let e : count - k ≡ suc (count - (k + 1)) = omega arith in
    let d : List ℕ = digits nc (get_or cs (start + k * stride) 0) in
    let f : start + k * stride + stride ≡ start + (k + 1) * stride = omega (arith, add-mul k 1 stride, one-mul stride) in
    let g : k * nc + 1 + length d ≡ (k + 1) * nc + 1 =
    omega (arith, add-mul k 1 nc, one-mul nc, length_digits nc (get_or cs (start + k * stride) 0)) in
    rw (e, f) (total-append (k * nc + 1) d (row_of nc (picked (start + (k + 1) * stride) stride (count - (k + 1)) cs))
    ∙ rw g refl)

pub line-start : (nc start stride count : ℕ) (cs : List ℕ)
    → total (0 * nc + 1) (row_of nc (picked (start + 0 * stride) stride (count - 0) cs))
    ≡ total 1 (row_of nc (picked start stride count cs))
line-start nc start stride count cs =
    let e : count - 0 ≡ count = omega arith in
    rw (zero-mul nc, zero-mul stride, add-zero start, e) refl

pub line-end : (nc start stride count k i : ℕ) (cs : List ℕ) → count ≤ k
    → total i (row_of nc (picked start stride (count - k) cs)) ≡ 0
unfolding picked flat_map total
line-end nc start stride count k i cs h = let e : count - k ≡ 0 = omega arith in rw e refl

pub line-sum_is : (nc start stride count t : ℕ) (cs : List ℕ) → t ≡ total 1 (row_of nc (picked start stride count cs))
    → t % (count * nc + 1) ≡ sum (row_of nc (picked start stride count cs))
unfolding sum
line-sum_is nc start stride count t cs e =
    let n : length (row_of nc (picked start stride count cs)) ≡ count * nc =
    length-flat nc (picked start stride count cs) ∙ ap (λ (m : ℕ). m * nc) (length-picked start stride count cs) in
    rw (e, n) refl

-- chunk k of a line stands among the numbers
pub line-inside : (start stride count k size : ℕ) → k < count → start + count * stride < size + stride
    → start + k * stride < size
line-inside start stride count k size h l = omega (arith, field_room count stride k h)

-- ---- blocks and chunk-strings as lines
-- the row from chunk a on
flat-drop : (k a : ℕ) (vs : List ℕ) → drop (a * k) (flat_map (digits k) vs) ≡ flat_map (digits k) (drop a vs)
unfolding flat_map
flat-drop k zero vs = rw (zero-mul k) refl
flat-drop k (suc a) [] = drop-nil (suc a * k)
flat-drop k (suc a) (v ∷ vs) =
    let e : suc a * k ≡ k + a * k = omega (arith, suc-mul a k) in
    rw (
      e,
      ← drop-drop (a * k) k (digits k v ++ flat_map (digits k) vs),
      drop_at (digits k v) (flat_map (digits k) vs) k (length_digits k v),
    ) (flat-drop k a vs)

-- chunk a of the row
flat-at : (k a : ℕ) (vs : List ℕ) → a < length vs → take k (drop (a * k) (flat_map (digits k) vs)) ≡ digits k (get_or vs a 0)
unfolding flat_map
flat-at k a vs h =
    rw (flat-drop k a vs, drop-cons vs a 0 h)
    (take_at (digits k (get_or vs a 0)) (flat_map (digits k) (drop (suc a) vs)) k (length_digits k (get_or vs a 0)))

-- neighbouring chunks
flat_run : (k n : ℕ) (vs : List ℕ) → (a : ℕ) → a + n ≤ length vs
    → take (n * k) (drop (a * k) (flat_map (digits k) vs)) ≡ row_of k (picked a 1 n vs)
unfolding flat_map picked
flat_run k zero vs a h = rw (zero-mul k) refl
flat_run k (suc n) vs a h =
    let e : suc n * k ≡ k + n * k = omega (arith, suc-mul n k) in
    let x : List ℕ = drop (a * k) (flat_map (digits k) vs) in
    let f : a * k + k ≡ (a + 1) * k = omega (arith, add-mul a 1 k, one-mul k) in
    rw (e, take-add k (n * k) x)
    (ap₂ (λ (p q : List ℕ). p ++ q) (flat-at k a vs (omega arith))
    (ap (take (n * k)) (drop-drop k (a * k) (flat_map (digits k) vs) ∙ ap (λ (m : ℕ). drop m (flat_map (digits k) vs)) f)
    ∙ flat_run k n vs (a + 1) (omega arith)))

module _ (l : Layout) (cs : List ℕ) (e : Chunked l cs) where
  abbrev row : List ℕ
  row = row_of l.nc cs

  -- it has as many bits as it should
  pub row-length : length row ≡ row_bits l
  row-length = length-flat l.nc cs ∙ ap (λ (n : ℕ). n * l.nc) e.0

  pub block_line : (i : ℕ) → i < l.l1
      → sum (row_of l.nc (picked (i * l.l2) 1 l.l2 cs)) ≡ get_or (block_sums l row) i 0
  block_line i h =
      let f : i * block_bits l ≡ i * l.l2 * l.nc = sym (mul_assoc i l.l2 l.nc) in
      sym (block_sum_at l row i h
      ∙ ap sum (ap (λ (n : ℕ). take (block_bits l) (drop n row)) f
      ∙ flat_run l.nc l.l2 cs (i * l.l2) (omega (arith, e.0, field_room l.l1 l.l2 i h))))

  -- chunk-string j from block i on
  string-from : (j m i : ℕ) → j < l.l2 → i + m ≡ l.l1
      → flat_map (chunk l j) (drop i (blocks l row)) ≡ row_of l.nc (picked (j + i * l.l2) l.l2 m cs)
  unfolding flat_map picked
  string-from j zero i k h = joined_end (chunk l j) (blocks l row) i (omega (arith, length-blocks l row))
  string-from j (suc m) i k h =
      let f : i * block_bits l + j * l.nc ≡ (j + i * l.l2) * l.nc =
      omega (arith, mul_assoc i l.l2 l.nc, add-mul j (i * l.l2) l.nc) in
      let g : j + (i + 1) * l.l2 ≡ j + i * l.l2 + l.l2 = omega (arith, add-mul i 1 l.l2, one-mul l.l2) in
      joined_next (chunk l j) (blocks l row) i (omega (arith, length-blocks l row))
      ∙ ap₂ (λ (p q : List ℕ). p ++ q)
      (chunk-at l row i j (omega arith) k ∙ ap (λ (n : ℕ). take l.nc (drop n row)) f
      ∙ flat-at l.nc (j + i * l.l2) cs (omega (arith, e.0, field_room l.l1 l.l2 i (omega arith))))
      (string-from j m (i + 1) k (omega arith) ∙ ap (λ (n : ℕ). row_of l.nc (picked n l.l2 m cs)) g)

  pub string_line : (j : ℕ) → j < l.l2 → sum (row_of l.nc (picked j l.l2 l.l1 cs)) ≡ get_or (string_sums l row) j 0
  unfolding chunk_string
  string_line j k =
      let z : j + 0 * l.l2 ≡ j = omega (arith, zero-mul l.l2) in
      sym (string_sum_at l row j k
      ∙ ap sum (string-from j l.l1 0 k (zero-add l.l1)
      ∙ ap (λ (n : ℕ). row_of l.nc (picked n l.l2 l.l1 cs)) z))
