-- The parts of a message put together: the checks of the chunks, the fields one after another, and the packed fields
-- behind the head. Assumes nothing.
use Prim.Native.Nat.{ℕ, suc, ◌+◌, ◌-◌, ◌*◌, ◌<◌, ◌≤◌}
use mathlib.Core.Path.{◌≡◌, refl, sym, ap, ap₂, ◌∙◌}
use mathlib.Core.Bool.{true}
use mathlib.Core.List.{List, [], ◌∷◌, ◌++◌, append_assoc, append-nil, flat_map, map}
use native.Mathlib.Omega.{arith}
use borrow.Author.Rules.{part_to_end}
use borrow.Rule.Slice.PartMut.{put_mid}
use lib.ListN.{length, take, drop, length-append, length-drop, drop_of_length-le}
use lib.Seq.{take_at, drop-drop, ext_get_or, get_or-take, length-take-le}
use Rattle.bits.specs.Bits.{AllBits, longest, most_chunks, number, digits, bytes_for, pack, unpack, fits}
use Rattle.bits.specs.Filling.{filled, Goes}
use Rattle.bits.specs.declared.Filler.{Filler}
use Rattle.bits.proofs.Filling.{drop-later, goes_then}
use Rattle.bits.proofs.Laws.{bits-unpack, length-unpack}
use Rattle.bits.proofs.Packing.{fits-length}
use Rattle.field.specs.Field.{Elements, check, Checks}
use Rattle.message.specs.Chunks.{row_of, Chunked}
use Rattle.message.specs.Encoding.{FitAll}
use Rattle.message.specs.Layout.{legal, row_bits, block_bits, string_bits, chunks}
use Rattle.message.specs.Message.{width, fields_length, message_bytes, block_sums, string_sums, checks, head, field_bits, encode, message}
use Rattle.message.specs.Read.{fields}
use Rattle.message.specs.declared.Layout.{Layout}
use Rattle.message.proofs.Cutting.{each_number, chunk-numbers, chunk_elements, length_block_sums, length_string_sums, length-checks}
use Rattle.message.proofs.Fields.{width-most, length-flat, length_fields, fields-flat, flat-fields}
use Rattle.message.proofs.Legal.{legal_bounds, sizes}
use Rattle.message.proofs.Messages.{length_field_bits}
use Rattle.message.proofs.RowSums.{block_piece, string_piece}

-- ---- the chunks that the checks are taken of
-- the chunks of a row as numbers
module _ (l : Layout) (x : List ℕ) (a : AllBits x) (cs : List ℕ) (e : cs ≡ map (number l.nc) (chunks l x)) where
  numbers_elements : Elements l.nc cs
  numbers_elements = rw e (chunk_elements l x a)

  length-numbers : length cs ≡ l.l1 * l.l2
  length-numbers = ap length (e ∙ chunk-numbers l x) ∙ length_fields (l.l1 * l.l2) l.nc x

  -- the row that they make
  row_of_numbers : row_bits l ≤ length x → row_of l.nc cs ≡ take (row_bits l) x
  row_of_numbers h = ap (row_of l.nc) (e ∙ chunk-numbers l x) ∙ flat-fields (l.l1 * l.l2) l.nc x a h

-- at the front of an array, lent
module _ (l : Layout) (x : List ℕ) (a : AllBits x) (q z : List ℕ) (e : q ≡ map (number l.nc) (chunks l x) ++ z) where
  chunks-lent : take (l.l1 * l.l2) q ≡ map (number l.nc) (chunks l x)
  chunks-lent =
      rw e (take_at (map (number l.nc) (chunks l x)) z (l.l1 * l.l2)
      (ap length (chunk-numbers l x) ∙ length_fields (l.l1 * l.l2) l.nc x))

  pub chunks_elements : Elements l.nc (take (l.l1 * l.l2) q)
  chunks_elements = numbers_elements l x a _ chunks-lent

  pub length_lent : length (take (l.l1 * l.l2) q) ≡ l.l1 * l.l2
  length_lent = length-numbers l x a _ chunks-lent

  -- the row that they make
  pub row_again : row_bits l ≤ length x → row_of l.nc (take (l.l1 * l.l2) q) ≡ take (row_bits l) x
  row_again h = row_of_numbers l x a _ chunks-lent h

-- the chunks of the row that numbers make are these numbers
numbers_again : (l : Layout) (cs : List ℕ) → Chunked l cs → map (number l.nc) (chunks l (row_of l.nc cs)) ≡ cs
numbers_again l cs e =
    chunk-numbers l (row_of l.nc cs)
    ∙ ap (fields (l.l1 * l.l2) l.nc) (sym (append-nil (row_of l.nc cs)))
    ∙ fields-flat (l.l1 * l.l2) l.nc cs [] e.0 (fit_all cs e.1)
  where
    fit_all : (vs : List ℕ) → Elements l.nc vs → FitAll l.nc vs
    fit_all [] h = tt
    fit_all (v ∷ vs) h = (h 0, fit_all vs (λ k. h (suc k)))

-- the checks that are taken of them, at the front of an array
pub checks_are : (l : Layout) (cs vs : List ℕ) → Chunked l cs → l.r ≤ length vs → Checks l.nc l.r cs vs
    → take l.r vs ≡ checks l (row_of l.nc cs)
unfolding checks
checks_are l cs vs e h f =
    let x : List ℕ = row_of l.nc cs in
    let k : length (take l.r vs) ≡ l.r = length-take-le l.r vs h in
    let g : ℕ → ℕ = λ i. check l.nc i (map (number l.nc) (chunks l x)) in
    ext_get_or 0 (take l.r vs) (checks l x) (k ∙ sym (length-checks l x))
    (λ i n. let b : i < l.r = omega arith in
    get_or-take l.r vs i 0 b ∙ f i b ∙ ap (check l.nc i) (sym (numbers_again l cs e))
    ∙ sym (each_number g l.r i b))

-- ---- the fields of a row's message
abbrev pub fields_of : Layout → List ℕ → List ℕ
fields_of l y = field_bits l (block_sums l y) (string_sums l y) (checks l y)

abbrev pub block_part : Layout → List ℕ → List ℕ
block_part l x = flat_map (digits (width (block_bits l))) (block_sums l x)

abbrev pub string_part : Layout → List ℕ → List ℕ
string_part l x = flat_map (digits (width (string_bits l))) (string_sums l x)

abbrev pub check_part : Layout → List ℕ → List ℕ
check_part l x = flat_map (digits l.nc) (checks l x)

-- a filler that has taken nothing
abbrev pub fresh : Filler
fresh = record { at = 0; held = 0; count = 0 }

module _ (l : Layout) (x d : List ℕ) (e : legal l ≡ true) (room : bytes_for (fields_length l) ≤ length d) where
  length-block-part : length (block_part l x) ≡ l.l1 * width (block_bits l)
  length-block-part =
      length-flat (width (block_bits l)) (block_sums l x) ∙ ap (λ (n : ℕ). n * width (block_bits l)) (length_block_sums l x)

  length-string-part : length (string_part l x) ≡ l.l2 * width (string_bits l)
  length-string-part =
      length-flat (width (string_bits l)) (string_sums l x)
      ∙ ap (λ (n : ℕ). n * width (string_bits l)) (length_string_sums l x)

  -- block sums
  pub block_room : (wb : ℕ) → wb ≡ width (block_bits l) → (wb ≤ 16) × (0 * 8 + 0 + l.l1 * wb ≤ length d * 8)
  unfolding fields_length
  block_room wb eb =
      rw eb (omega (arith, width-most 11 (block_bits l) (omega (arith, (sizes l (legal_bounds l e)).block))), omega arith)

  pub block_stage : (wb : ℕ) → wb ≡ width (block_bits l) → (f : Filler) (b : List ℕ)
      → Goes fresh d (flat_map (digits wb) (take l.l1 (drop 0 (block_sums l x ++ string_sums l x)))) f b
      → Goes fresh d (block_part l x) f b
  block_stage wb eb f b g = rw (eb, block_piece l x) at g

  -- chunk-string sums
  module _ (ws : ℕ) (es : ws ≡ width (string_bits l)) (f : Filler) (b : List ℕ)
      (s : Goes fresh d (block_part l x) f b) where
    pub string_room : (ws ≤ 16) × (f.at * 8 + f.count + l.l2 * ws ≤ length b * 8)
    unfolding fields_length
    string_room =
        rw es (
          omega (arith, width-most 11 (string_bits l) (omega (arith, (sizes l (legal_bounds l e)).string))),
          omega (arith, s.place, s.long, length-block-part),
        )

    pub string_stage : (g : Filler) (c : List ℕ)
        → Goes f b (flat_map (digits ws) (take l.l2 (drop l.l1 (block_sums l x ++ string_sums l x)))) g c
        → Goes fresh d (block_part l x ++ string_part l x) g c
    string_stage g c t = goes_then s (rw (es, string_piece l x) at t)

  -- checks
  module _ (f : Filler) (b : List ℕ) (s : Goes fresh d (block_part l x ++ string_part l x) f b) where
    pub check-room : f.at * 8 + f.count + l.r * l.nc ≤ length b * 8
    unfolding fields_length
    check-room =
        omega (
          arith,
          s.place,
          s.long,
          length-append (block_part l x) (string_part l x),
          length-block-part,
          length-string-part,
        )

    module _ (g : Filler) (c : List ℕ) (t : Goes f b (check_part l x) g c) where
      -- all fields are taken
      all : Goes fresh d (block_part l x ++ string_part l x ++ check_part l x) g c
      all = goes_then s t

      length-all : g.at * 8 + g.count ≡ fields_length l
      unfolding field_bits
      length-all =
          let n : length (block_part l x ++ string_part l x ++ check_part l x) ≡ fields_length l =
          length_field_bits l (block_sums l x) (string_sums l x) (checks l x) (length_block_sums l x)
          (length_string_sums l x) (length-checks l x)
          in
          omega (arith, all.place)

      pub end-room : g.at * 8 + g.count ≤ length c * 8
      end-room = omega (arith, length-all, all.long)

      all-taken : filled g c ≡ fields_of l x
      unfolding unpack digits field_bits
      all-taken = all.taken

      -- and with the last of them in a byte they are packed
      pub all_ended : (o : List ℕ) → o ≡ pack (filled g c) ++ drop (bytes_for (g.at * 8 + g.count)) c
          → o ≡ pack (fields_of l x) ++ drop (bytes_for (fields_length l)) d
      all_ended o h =
          let n : bytes_for (g.at * 8 + g.count) ≡ bytes_for (fields_length l) = ap bytes_for length-all in
          let low : g.at ≤ bytes_for (fields_length l) = omega (arith, length-all) in
          h ∙ ap₂ (λ (y z : List ℕ). pack y ++ z) all-taken
          (ap (λ (m : ℕ). drop m c) n ∙ drop-later g.at (bytes_for (fields_length l)) d c low all.rest)

-- ---- the message of a packed row
-- the row that the packed bytes hold
abbrev pub held : Layout → List ℕ → List ℕ
held l p = take (row_bits l) (unpack p)

module _ (l : Layout) (p o : List ℕ) (e : legal l ≡ true) (g : fits (row_bits l) p ≡ true)
    (room : message_bytes l ≤ length o) where
  pub enough : (row_bits l ≤ length p * 8) × (row_bits l ≤ longest)
  enough = let z = (sizes l (legal_bounds l e)).row in (omega (arith, fits-length (row_bits l) p g), z)

  -- the numbers f of its chunks, filled in at the front of an array a
  module _ (a : List ℕ) (long : most_chunks ≤ length a) where
    pub length-front : length (take (l.l1 * l.l2) a) ≡ l.l1 * l.l2
    length-front = length-take-le (l.l1 * l.l2) a (omega (arith, (legal_bounds l e).chunks))

    module _ (f : List ℕ) (h : f ≡ fields (length (take (l.l1 * l.l2) a)) l.nc (unpack p)) where
      abbrev front : List ℕ
      front = take (l.l1 * l.l2) (f ++ drop (l.l1 * l.l2) a)

      front_numbers : front ≡ map (number l.nc) (chunks l (unpack p))
      front_numbers =
          let n : f ≡ fields (l.l1 * l.l2) l.nc (unpack p) =
          h ∙ ap (λ (k : ℕ). fields k l.nc (unpack p)) length-front in
          take_at f (drop (l.l1 * l.l2) a) (l.l1 * l.l2) (ap length n ∙ length_fields (l.l1 * l.l2) l.nc (unpack p)) ∙ n
          ∙ sym (chunk-numbers l (unpack p))

      pub front-within : l.l1 * l.l2 ≤ length (f ++ drop (l.l1 * l.l2) a)
      front-within =
          omega (
            arith,
            length-append f (drop (l.l1 * l.l2) a),
            ap length h ∙ length_fields (length (take (l.l1 * l.l2) a)) l.nc (unpack p),
            length-front,
          )

      pub row_held : row_of l.nc front ≡ held l p
      row_held = row_of_numbers l (unpack p) (bits-unpack p) front front_numbers (omega (arith, enough.0, length-unpack p))

      -- they are those of a row
      pub front_chunked : Chunked l front
      front_chunked = (
        length-numbers l (unpack p) (bits-unpack p) front front_numbers,
        numbers_elements l (unpack p) (bits-unpack p) front front_numbers,
      )

  pub head-room : 9 ≤ length o
  unfolding message_bytes
  head-room = omega arith

  -- the slice once the head is there, and what is left of it
  module _ (o₁ : List ℕ) (h : o₁ ≡ head l ++ drop 9 o) where
    length-headed : length o₁ ≡ length o
    unfolding head
    length-headed = ap length h ∙ length-append (head l) (drop 9 o) ∙ omega (arith, length-drop 9 o, head-room)

    behind : take (length o₁ - 9) (drop 9 o₁) ≡ drop 9 o
    unfolding head
    behind = part_to_end o₁ 9 ∙ ap (drop 9) h

    pub body-room : 9 ≤ length o₁
    body-room = rw length-headed head-room

    -- there is room for the fields
    pub fields-room : bytes_for (fields_length l) ≤ length (take (length o₁ - 9) (drop 9 o₁))
    unfolding message_bytes
    fields-room = rw behind (simp length-drop (omega arith))

    in-front : take 9 o₁ ≡ head l
    unfolding head
    in-front = ap (take 9) h

    nothing-after : drop (length o₁ - 9) (drop 9 o₁) ≡ []
    nothing-after = drop_of_length-le (drop 9 o₁) {i = length o₁ - 9} (simp length-drop (omega arith))

    -- head and packed fields are the message
    pub assembled : (y t : List ℕ) → y ≡ held l p
        → t ≡ pack (fields_of l y) ++ drop (bytes_for (fields_length l)) (take (length o₁ - 9) (drop 9 o₁))
        → put_mid 9 (length o₁ - 9) o₁ t ≡ message l (held l p) ++ drop (message_bytes l) o
    unfolding message encode message_bytes
    assembled y t i k =
        let fs : List ℕ = fields_of l (held l p) in
        let packed : t ≡ pack fs ++ drop (9 + bytes_for (fields_length l)) o =
        k ∙ rw (behind, i, drop-drop (bytes_for (fields_length l)) 9 o) refl in
        rw (in-front, nothing-after, append-nil t, packed)
        (sym (append_assoc (head l) (pack fs) (drop (9 + bytes_for (fields_length l)) o)))
