-- A message and what is read of it determine each other. Assumes nothing.
use Prim.Native.Nat.{ℕ, zero, suc, ◌+◌, ◌*◌, ◌≤◌}
use mathlib.Core.Path.{◌≡◌, refl, sym, ap, ap₂, ◌∙◌}
use mathlib.Core.Bool.{Bool, true, false, not, ◌||◌}
use mathlib.Core.Logic.{◌↔◌}
use mathlib.Core.List.{List, [], ◌∷◌, ◌++◌, append_assoc, flat_map, map}
use native.Mathlib.Omega.{arith}
use borrow.Author.Tests.{le-leb, eq-eqb, ne_eqb, eqb-true, not-false}
use lib.Dec.{eqb}
use lib.ListN.{length, get_or, take, drop, length-append, length-drop, take-append-drop}
use lib.Seq.{drop_at, take-add, drop-cons, drop-drop}
use Rattle.refusal.specs.Refusal.{Check}
use Rattle.refusal.proofs.Laws.{passed}
use Rattle.bits.specs.Bits.{AllBits, AllBytes, digits, bytes_for, pack, unpack, blank, fits}
use Rattle.bits.proofs.Laws.{neither_left, neither_right, bits-append, bits-unpack, bits-drop, length-unpack}
use Rattle.bits.proofs.Packing.{bytes_drop, unpack-pack, pack-unpack, length-pack, fits-pack, fits-blank, fits_by}
use Rattle.message.specs.Encoding.{Encodable}
use Rattle.message.specs.Layout.{legal, block_bits, string_bits, numbers}
use Rattle.message.specs.Message.{width, fields_length, message_bytes, head, field_bits, encode}
use Rattle.message.specs.Read.{marked, version_one, layout_of, body, read_block_sums, read_string_sums, read_checks, some_above, message_refusal}
use Rattle.message.specs.declared.Layout.{Layout}
use Rattle.message.proofs.Fields.{fields-flat, flat-fields, length-flat, bits-flat, none_above, at_most, fit-width, fields_fit, length_fields}
use Rattle.message.proofs.Head.{Mark, mark, VersionOne, version}

-- ---- the bits of the fields
module _ (l : Layout) (bs ss cs : List ℕ) where
  abbrev block_part : List ℕ
  block_part = flat_map (digits (width (block_bits l))) bs

  abbrev string_part : List ℕ
  string_part = flat_map (digits (width (string_bits l))) ss

  abbrev check_part : List ℕ
  check_part = flat_map (digits l.nc) cs

  pub bits-fields : AllBits (field_bits l bs ss cs)
  unfolding field_bits
  bits-fields =
      bits-append (block_part ++ string_part) check_part
      (bits-append block_part string_part (bits-flat (width (block_bits l)) bs) (bits-flat (width (string_bits l)) ss))
      (bits-flat l.nc cs)

  module _ (p : length bs ≡ l.l1) (q : length ss ≡ l.l2) (t : length cs ≡ l.r) where
    length-block-part : length block_part ≡ l.l1 * width (block_bits l)
    length-block-part = length-flat (width (block_bits l)) bs ∙ ap (λ (n : ℕ). n * width (block_bits l)) p

    length-string-part : length string_part ≡ l.l2 * width (string_bits l)
    length-string-part = length-flat (width (string_bits l)) ss ∙ ap (λ (n : ℕ). n * width (string_bits l)) q

    length-check-part : length check_part ≡ l.r * l.nc
    length-check-part = length-flat l.nc cs ∙ ap (λ (n : ℕ). n * l.nc) t

    pub length_field_bits : length (field_bits l bs ss cs) ≡ fields_length l
    unfolding field_bits fields_length
    length_field_bits =
        length-append (block_part ++ string_part) check_part
        ∙ omega (arith, length-append block_part string_part, length-block-part, length-string-part, length-check-part)

    pub length-encode : length (encode l bs ss cs) ≡ message_bytes l
    unfolding encode head message_bytes
    length-encode =
        length-append (head l) (pack (field_bits l bs ss cs))
        ∙ ap (λ (n : ℕ). 9 + n) (length-pack (field_bits l bs ss cs) ∙ ap bytes_for length_field_bits)

-- ---- reading what was encoded
-- the bits after the head are the fields and then the spare bits
body-encode : (l : Layout) (bs ss cs : List ℕ)
    → body (encode l bs ss cs) ≡ field_bits l bs ss cs
    ++ drop (length (field_bits l bs ss cs)) (unpack (pack (field_bits l bs ss cs)))
unfolding body encode head
body-encode l bs ss cs =
    let f : List ℕ = field_bits l bs ss cs in
    sym (ap (λ (x : List ℕ). x ++ drop (length f) (unpack (pack f))) (sym (unpack-pack f (bits-fields l bs ss cs)))
    ∙ take-append-drop (length f) (unpack (pack f)))

layout-encode : (l : Layout) (bs ss cs : List ℕ) → layout_of (encode l bs ss cs) ≡ l
unfolding layout_of encode head
layout-encode l bs ss cs = refl

marked-encode : (l : Layout) (bs ss cs : List ℕ) → marked (encode l bs ss cs) ≡ true
unfolding marked encode head
marked-encode l bs ss cs = rw (le-leb 9 (length (encode l bs ss cs)) (omega arith)) refl

version_encode : (l : Layout) (bs ss cs : List ℕ) → version_one (encode l bs ss cs) ≡ true
unfolding version_one encode head
version_encode l bs ss cs = refl

-- what reading gets
pub record ReadsAs (s : List ℕ) (l : Layout) (bs ss cs : List ℕ) : Type 0 where
  pub layout : layout_of s ≡ l
  pub block_sums_are : read_block_sums l s ≡ bs
  pub string_sums_are : read_string_sums l s ≡ ss
  pub checks : read_checks l s ≡ cs

module _ (l : Layout) (bs ss cs : List ℕ) (e : Encodable l bs ss cs) where
  abbrev spare : List ℕ
  spare = drop (length (field_bits l bs ss cs)) (unpack (pack (field_bits l bs ss cs)))

  -- the parts of the body one after another
  parts : body (encode l bs ss cs) ≡ block_part l bs ss cs ++ (string_part l bs ss cs ++ (check_part l bs ss cs ++ spare))
  unfolding field_bits
  parts = body-encode l bs ss cs ∙ simp append_assoc

  after-blocks : drop (l.l1 * width (block_bits l)) (body (encode l bs ss cs))
      ≡ string_part l bs ss cs ++ (check_part l bs ss cs ++ spare)
  after-blocks =
      rw parts (drop_at (block_part l bs ss cs) (string_part l bs ss cs ++ (check_part l bs ss cs ++ spare))
      (l.l1 * width (block_bits l)) (length-block-part l bs ss cs e.block_count e.string_count e.check-count))

  after-strings : drop (l.l1 * width (block_bits l) + l.l2 * width (string_bits l)) (body (encode l bs ss cs))
      ≡ check_part l bs ss cs ++ spare
  after-strings =
      sym (drop-drop (l.l2 * width (string_bits l)) (l.l1 * width (block_bits l)) (body (encode l bs ss cs)))
      ∙ rw after-blocks
      (drop_at (string_part l bs ss cs) (check_part l bs ss cs ++ spare) (l.l2 * width (string_bits l))
      (length-string-part l bs ss cs e.block_count e.string_count e.check-count))

  pub reads_encoded : ReadsAs (encode l bs ss cs) l bs ss cs
  unfolding read_block_sums read_string_sums read_checks
  reads_encoded = record {
    layout = layout-encode l bs ss cs;
    block_sums_are =
        rw parts (fields-flat l.l1 (width (block_bits l)) bs
        (string_part l bs ss cs ++ (check_part l bs ss cs ++ spare)) e.block_count
        (fit-width (block_bits l) bs e.block_range));
    string_sums_are =
        rw after-blocks (fields-flat l.l2 (width (string_bits l)) ss (check_part l bs ss cs ++ spare) e.string_count
        (fit-width (string_bits l) ss e.string_range));
    checks = rw after-strings (fields-flat l.r l.nc cs spare e.check-count e.check_range);
  }

-- ---- the checks of a message, one by one
module _ (s : List ℕ) where
  -- what rows 1 to 6 ask
  pub record Fit : Type 0 where
    pub is_marked : marked s ≡ true
    pub is_version : version_one s ≡ true
    pub is_legal : legal (layout_of s) ≡ true
    pub is_long : length s ≡ message_bytes (layout_of s)
    pub blocks-low : some_above (block_bits (layout_of s)) (read_block_sums (layout_of s) s) ≡ false
    pub strings-low : some_above (string_bits (layout_of s)) (read_string_sums (layout_of s) s) ≡ false
    pub is_blank : blank (drop (fields_length (layout_of s)) (body s)) ≡ true

  pub not_refused : Fit → message_refusal s ≡ 0
  unfolding message_refusal
  not_refused f =
      simp (
        f.is_marked,
        f.is_version,
        f.is_legal,
        eq-eqb (length s) (message_bytes (layout_of s)) f.is_long,
        f.blocks-low,
        f.strings-low,
        f.is_blank,
      )

  pub fit : message_refusal s ≡ 0 → Fit
  unfolding message_refusal
  fit e =
      let l : Layout = layout_of s in
      let c6 : Check = (6, not (blank (drop (fields_length l) (body s)))) in
      let c5 : Check =
      (5, some_above (block_bits l) (read_block_sums l s) || some_above (string_bits l) (read_string_sums l s)) in
      let c4 : Check = (4, not (eqb (length s) (message_bytes l))) in
      let c3 : Check = (3, not (legal l)) in
      let c2 : Check = (2, not (version_one s)) in
      let p1 = passed (1, not (marked s)) (c2 ∷ c3 ∷ c4 ∷ c5 ∷ c6 ∷ []) (λ z. omega arith) e in
      let p2 = passed c2 (c3 ∷ c4 ∷ c5 ∷ c6 ∷ []) (λ z. omega arith) p1.1 in
      let p3 = passed c3 (c4 ∷ c5 ∷ c6 ∷ []) (λ z. omega arith) p2.1 in
      let p4 = passed c4 (c5 ∷ c6 ∷ []) (λ z. omega arith) p3.1 in
      let p5 = passed c5 (c6 ∷ []) (λ z. omega arith) p4.1 in
      let p6 = passed c6 [] (λ z. omega arith) p5.1 in
      record {
        is_marked = not-false (marked s) p1.0;
        is_version = not-false (version_one s) p2.0;
        is_legal = not-false (legal l) p3.0;
        is_long = eqb-true (length s) (message_bytes l) (not-false (eqb (length s) (message_bytes l)) p4.0);
        blocks-low =
            neither_left (some_above (block_bits l) (read_block_sums l s)) (some_above (string_bits l) (read_string_sums l s))
            p5.0;
        strings-low =
            neither_right (some_above (block_bits l) (read_block_sums l s)) (some_above (string_bits l) (read_string_sums l s))
            p5.0;
        is_blank = not-false (blank (drop (fields_length l) (body s))) p6.0;
      }

-- ---- what each failed check is refused by
-- the condition of row 5
abbrev pub sum_high : Layout → List ℕ → Bool
sum_high l s = some_above (block_bits l) (read_block_sums l s) || some_above (string_bits l) (read_string_sums l s)

module _ (s : List ℕ) where
  pub refused_1 : marked s ≡ false → message_refusal s ≡ 1
  unfolding message_refusal
  refused_1 a = simp a

  pub refused_2 : marked s ≡ true → version_one s ≡ false → message_refusal s ≡ 2
  unfolding message_refusal
  refused_2 m a = simp (m, a)

-- from row 3 on, by the layout that the head names
module _ (s : List ℕ) (m : marked s ≡ true) (v : version_one s ≡ true) where
  refused-3' : legal (layout_of s) ≡ false → message_refusal s ≡ 3
  unfolding message_refusal
  refused-3' a = simp (m, v, a)

  refused-4' : legal (layout_of s) ≡ true → (length s ≡ message_bytes (layout_of s) → ⊥) → message_refusal s ≡ 4
  unfolding message_refusal
  refused-4' k a = simp (m, v, k, ne_eqb (length s) (message_bytes (layout_of s)) a)

  refused-5' : legal (layout_of s) ≡ true → length s ≡ message_bytes (layout_of s) → sum_high (layout_of s) s ≡ true
      → message_refusal s ≡ 5
  unfolding message_refusal
  refused-5' k n a = simp (m, v, k, eq-eqb (length s) (message_bytes (layout_of s)) n, a)

  refused-6' : legal (layout_of s) ≡ true → length s ≡ message_bytes (layout_of s) → sum_high (layout_of s) s ≡ false
      → blank (drop (fields_length (layout_of s)) (body s)) ≡ false → message_refusal s ≡ 6
  unfolding message_refusal
  refused-6' k n h a = simp (m, v, k, eq-eqb (length s) (message_bytes (layout_of s)) n, h, a)

  refused-not' : legal (layout_of s) ≡ true → length s ≡ message_bytes (layout_of s) → sum_high (layout_of s) s ≡ false
      → blank (drop (fields_length (layout_of s)) (body s)) ≡ true → message_refusal s ≡ 0
  unfolding message_refusal
  refused-not' k n h a = simp (m, v, k, eq-eqb (length s) (message_bytes (layout_of s)) n, h, a)

  module _ (l : Layout) (q : layout_of s ≡ l) where
    pub refused_3 : legal l ≡ false → message_refusal s ≡ 3
    refused_3 a = refused-3' (rw q a)

    pub refused_4 : legal l ≡ true → (length s ≡ message_bytes l → ⊥) → message_refusal s ≡ 4
    refused_4 k a = refused-4' (rw q k) (rw q a)

    pub refused_5 : legal l ≡ true → length s ≡ message_bytes l → sum_high l s ≡ true → message_refusal s ≡ 5
    refused_5 k n a = refused-5' (rw q k) (rw q n) (rw q a)

    pub refused_6 : legal l ≡ true → length s ≡ message_bytes l → sum_high l s ≡ false
        → blank (drop (fields_length l) (body s)) ≡ false → message_refusal s ≡ 6
    refused_6 k n h a = refused-6' (rw q k) (rw q n) (rw q h) (rw q a)

    pub refused_not : legal l ≡ true → length s ≡ message_bytes l → sum_high l s ≡ false
        → blank (drop (fields_length l) (body s)) ≡ true → message_refusal s ≡ 0
    refused_not k n h a = refused-not' (rw q k) (rw q n) (rw q h) (rw q a)

-- ---- a message is fit exactly when some layout and values have it as their encoding
-- what is encoded is not refused
pub encoded_fit : (l : Layout) (bs ss cs : List ℕ) → Encodable l bs ss cs → message_refusal (encode l bs ss cs) ≡ 0
unfolding body encode pack
encoded_fit l bs ss cs e =
    let s : List ℕ = encode l bs ss cs in
    let k : layout_of s ≡ l = layout-encode l bs ss cs in
    let r : ReadsAs (encode l bs ss cs) l bs ss cs = reads_encoded l bs ss cs e in
    let f : List ℕ = field_bits l bs ss cs in
    let n : length f ≡ fields_length l =
    length_field_bits l bs ss cs e.block_count e.string_count e.check-count in
    not_refused s
    (record {
      is_marked = marked-encode l bs ss cs;
      is_version = version_encode l bs ss cs;
      is_legal = rw k e.is_legal;
      is_long = rw k (length-encode l bs ss cs e.block_count e.string_count e.check-count);
      blocks-low = rw (k, r.block_sums_are) (none_above (block_bits l) bs e.block_range);
      strings-low = rw (k, r.string_sums_are) (none_above (string_bits l) ss e.string_range);
      is_blank = rw (k, ← n) (fits-blank (length f) (pack f) (fits-pack f (bits-fields l bs ss cs)));
    })

-- the first bytes of a list, by their places
take-each : (s : List ℕ) (j n : ℕ) → j + n ≤ length s → take n (drop j s) ≡ map (λ (i : ℕ). get_or s i 0) (numbers j n)
unfolding numbers
take-each s j zero h = refl
take-each s j (suc n) h =
    rw (drop-cons s j 0 (omega arith)) (ap (λ (t : List ℕ). get_or s j 0 ∷ t) (take-each s (suc j) n (omega arith)))

-- the head says what was read in it
head_read : (s : List ℕ) → Mark s → VersionOne s → head (layout_of s) ≡ take 9 s
unfolding head layout_of numbers
head_read s m v =
    let b0 = m.first in
    let b1 = m.second in
    let b2 = m.third in
    let b3 = v.high in
    let b4 = v.low in
    sym (take-each s 0 9 m.long ∙ (cc))

-- the fields that were read are the bits after the head, but for the spare ones
field_bits-read : (l : Layout) (s : List ℕ) → fields_length l ≤ length (body s)
    → field_bits l (read_block_sums l s) (read_string_sums l s) (read_checks l s) ≡ take (fields_length l) (body s)
unfolding field_bits read_block_sums read_string_sums read_checks fields_length body
field_bits-read l s h =
    let x : List ℕ = body s in
    let a : AllBits (body s) = bits-unpack (drop 9 s) in
    let p : ℕ = l.l1 * width (block_bits l) in
    let q : ℕ = l.l2 * width (string_bits l) in
    let t : ℕ = l.r * l.nc in
    ap₂ (λ (u v : List ℕ). u ++ v)
    (ap₂ (λ (u v : List ℕ). u ++ v) (flat-fields l.l1 (width (block_bits l)) x a (omega arith))
    (flat-fields l.l2 (width (string_bits l)) (drop p x) (bits-drop p x a) (simp length-drop (omega arith)))
    ∙ sym (take-add p q x))
    (flat-fields l.r l.nc (drop (p + q) x) (bits-drop (p + q) x a) (simp length-drop (omega arith)))
    ∙ sym (take-add (p + q) t x)

-- encoding what was read of a fit message gives the same bytes back
pub encode-read : (s : List ℕ) → AllBytes s → message_refusal s ≡ 0
    → encode (layout_of s) (read_block_sums (layout_of s) s) (read_string_sums (layout_of s) s) (read_checks (layout_of s) s) ≡ s
unfolding encode message_bytes body
encode-read s b e =
    let f : Fit s = fit s e in
    let l : Layout = layout_of s in
    let n : length (drop 9 s) ≡ bytes_for (fields_length l) = simp length-drop (omega (arith, f.is_long)) in
    let w : fields_length l ≤ length (unpack (drop 9 s)) = omega (arith, length-unpack (drop 9 s)) in
    let g : fits (fields_length l) (drop 9 s) ≡ true = sym (fits_by (fields_length l) (drop 9 s) true n f.is_blank) in
    ap₂ (λ (u v : List ℕ). u ++ v) (head_read s (mark s f.is_marked) (version s f.is_version))
    (ap pack (field_bits-read l s w) ∙ pack-unpack (fields_length l) (drop 9 s) (bytes_drop 9 s b) g)
    ∙ take-append-drop 9 s

-- a fit message is the encoding of a legal layout, sums in range and checks
pub read_encodable : (s : List ℕ) → message_refusal s ≡ 0
    → Encodable (layout_of s) (read_block_sums (layout_of s) s) (read_string_sums (layout_of s) s) (read_checks (layout_of s) s)
unfolding read_block_sums read_string_sums read_checks body
read_encodable s e =
    let f : Fit s = fit s e in
    let l : Layout = layout_of s in
    let x : List ℕ = unpack (drop 9 s) in
    let p : ℕ = l.l1 * width (block_bits l) in
    let q : ℕ = l.l2 * width (string_bits l) in
    record {
      is_legal = f.is_legal;
      block_count = length_fields l.l1 (width (block_bits l)) x;
      string_count = length_fields l.l2 (width (string_bits l)) (drop p x);
      check-count = length_fields l.r l.nc (drop (p + q) x);
      block_range = at_most (block_bits l) (read_block_sums l s) f.blocks-low;
      string_range = at_most (string_bits l) (read_string_sums l s) f.strings-low;
      check_range = fields_fit l.r l.nc (drop (p + q) x) (bits-drop (p + q) x (bits-unpack (drop 9 s)));
    }

-- "a message that no layout and values could have produced is refused": a message is not refused by 1 to 6 exactly when
-- some legal layout, sums in range and checks have it as their encoding
pub fit_exactly : (s : List ℕ) → AllBytes s
    → (message_refusal s ≡ 0) ↔
    ((l : Layout) × (bs : List ℕ) × (ss : List ℕ) × (cs : List ℕ) × Encodable l bs ss cs × (encode l bs ss cs ≡ s))
fit_exactly s b = (
  λ e. (
    layout_of s,
    read_block_sums (layout_of s) s,
    read_string_sums (layout_of s) s,
    read_checks (layout_of s) s,
    read_encodable s e,
    encode-read s b e,
  ),
  λ w. rw w.5 at (encoded_fit w.0 w.1 w.2 w.3 w.4),
)
