-- A chunk that lost one bit: what the bit adds to the total of the positions, wherever the chunk's first bit stands,
-- and the chunk that it makes again. Assumes nothing.
use Prim.Native.Nat.{ℕ, zero, suc, ◌+◌, ◌*◌, ◌%◌, ◌<◌, ◌≤◌}
use mathlib.Core.Path.{◌≡◌, refl, sym, ap, ◌∙◌}
use mathlib.Core.Bool.{true}
use mathlib.Core.Logic.{◌⊎◌, inl, inr}
use mathlib.Core.List.{List, [], ◌∷◌, ◌++◌, append-nil}
use native.Mathlib.Nat.{mul-zero, mul-one, mul-le-mul, le_trans, mod-eq_of_lt}
use native.Mathlib.Omega.{arith}
use lib.ListN.{length, get_or, take, drop}
use lib.Seq.{take_at}
use Rattle.bits.specs.Bits.{AllBits, number, digits}
use Rattle.bits.proofs.Laws.{bits-digits, number_digits}
use Rattle.rows.specs.Deletion.{comes_from}
use Rattle.rows.specs.Order.{Row}
use Rattle.rows.proofs.Deletion.{One, here, there, one, comes-length}
use Rattle.vt.specs.Mend.{mended}
use Rattle.vt.specs.Ones.{ones}
use Rattle.vt.specs.Sum.{total, sum}
use Rattle.vt.proofs.Mending.{mended-only, mended-mends, same_mod}
use Rattle.vt.proofs.Totals.{ones-length, times_bit, total-put}
use Rattle.vt.proofs.Weighing.{total_far}
use Rattle.message.proofs.Fields.{field_room}
use Rattle.message.proofs.Positions.{total-high}
use Rattle.lines.specs.Lines.{line, Mendable}
use Rattle.lines.proofs.Parts.{total_but}
use Rattle.lines.proofs.Turns.{sum_of_total}

-- ---- a bit put back
-- x is y with a bit put in at a place
record Put (x y : List ℕ) : Type 0 where
  at : ℕ
  bit : ℕ
  inside : at ≤ length y
  small : bit < 2
  is : x ≡ take at y ++ (bit ∷ drop at y)

put : {x y : List ℕ} → One x y → AllBits x → Put x y
put (here {b} {x}) a = record { at = zero; bit = b; inside = omega arith; small = a.0; is = refl }
put (there {b} d) a =
    let p = put d a.1 in
    record {
      at = suc p.at;
      bit = p.bit;
      inside = omega (arith, p.inside);
      small = p.small;
      is = ap (λ (z : List ℕ). b ∷ z) p.is;
    }

-- the ones behind a place
ones-behind : (k : ℕ) (y : List ℕ) → AllBits y → k ≤ length y
    → (ones (drop k y) ≤ ones y) × ((ones y ≤ k + ones (drop k y)) × (k + ones (drop k y) ≤ length y))
unfolding ones
ones-behind zero y a h = (omega arith, (omega arith, omega (arith, ones-length y a)))
ones-behind (suc k) [] a h = absurd (omega arith)
ones-behind (suc k) (b ∷ y) a h =
    let r = ones-behind k y a.1 (omega arith) in
    (omega (arith, r.0), (omega (arith, r.1.0, a.0), omega (arith, r.1.1)))

-- a 0 that is put back adds at most the number of ones, a 1 at least as much and its position; so what it adds says
-- which it is, and what it adds in the chunk itself
pub adds : (first g : ℕ) (x y : List ℕ) → 1 ≤ first → AllBits x → AllBits y → comes_from x 1 y ≡ true
    → total first x ≡ total first y + g
    → ((g ≤ ones y) × (total 1 x ≡ total 1 y + g))
    ⊎ (((ones y < g) × (first + ones y ≤ g)) × ((g ≤ first + length y) × (total 1 x + first ≡ total 1 y + g + 1)))
adds first g x y low ax ay c e = go p.bit refl p.small
  where
    p : Put x y
    p = put (one x y c) ax

    gain : (i : ℕ) → total i x ≡ total i y + ((i + p.at) * p.bit + ones (drop p.at y))
    gain i = ap (total i) p.is ∙ total-put i p.at p.bit y p.inside

    go : (b : ℕ) → p.bit ≡ b → b < 2
        → ((g ≤ ones y) × (total 1 x ≡ total 1 y + g))
        ⊎ (((ones y < g) × (first + ones y ≤ g)) × ((g ≤ first + length y) × (total 1 x + first ≡ total 1 y + g + 1)))
    go zero b h =
        let r = ones-behind p.at y ay p.inside in
        let here = rw (b, mul-zero) at (gain 1) in
        let there = rw (b, mul-zero) at (gain first) in
        inl (omega (arith, r, there), omega (arith, here, there))
    go (suc zero) b h =
        let r = ones-behind p.at y ay p.inside in
        let here = rw (b, mul-one) at (gain 1) in
        let there = rw (b, mul-one) at (gain first) in
        inr (
          (omega (arith, r.1.0, there), omega (arith, r.1.0, there)),
          (omega (arith, r.1.1, there), omega (arith, here, there)),
        )
    go (suc (suc n)) b h = absurd (omega arith)

-- what it adds is at most the position behind the bits
adds_most : (first : ℕ) (x y : List ℕ) → 1 ≤ first → AllBits x → AllBits y → comes_from x 1 y ≡ true
    → (g : ℕ) × ((g ≤ first + length y) × (total first x ≡ total first y + g))
adds_most first x y low ax ay c =
    let p = put (one x y c) ax in
    let r = ones-behind p.at y ay p.inside in
    let gain = ap (total first) p.is ∙ total-put first p.at p.bit y p.inside in (
      (first + p.at) * p.bit + ones (drop p.at y),
      (omega (arith, r.1.1, times_bit (first + p.at) p.bit p.small), gain),
    )

-- the string that has a total and from which the bits at hand come is the mended one
pub made_again : (w whole : ℕ) (x y : List ℕ) → AllBits x → comes_from x 1 y ≡ true → length y + 1 ≡ w → total 1 x ≡ whole
    → mended w (whole % (w + 1)) y ≡ x
unfolding sum
made_again w whole x y a c n e =
    let l : length x ≡ w = omega (arith, comes-length x 1 y c) in
    sym (mended-only w (whole % (w + 1)) y x (record { row = (l, a); has_sum = rw (l, e) refl; comes = c }))

-- the front of a slice to which it was mended
pub front_mended : (w s : ℕ) (y q z : List ℕ) → AllBits y → length y + 1 ≡ w → s ≤ w → q ≡ mended (length y + 1) s y ++ z
    → (take w q ≡ mended w s y) × Row w (mended w s y)
front_mended w s y q z a n h e =
    let r = (mended-mends w s y a n h).row in
    (rw (e, n) (take_at (mended w s y) z w (omega (arith, r.0))), r)

-- few bits have a small total
pub few_bits : (y : List ℕ) → AllBits y → length y < 8 → (total 1 y ≤ 7 * 8) × (ones y ≤ 7)
few_bits y a h =
    let n : length y ≤ 7 = omega arith in
    let m : 1 + length y ≤ 8 = omega arith in
    (le_trans (total-high 1 y a) (mul-le-mul {n₂ = 7} {m₂ = 8} n m), omega (arith, ones-length y a))

-- bits that stand behind others, by what they weigh
pub weighed : (rest before o t : ℕ) (y : List ℕ) → o ≡ ones y → t ≡ total 1 y
    → rest + (before * o + t) ≡ rest + total (before + 1) y
weighed rest before o t y e f =
    let i : 1 + before ≡ before + 1 = omega arith in
    let far = rw i at (total_far before 1 y) in
    rw (e, f) (omega (arith, far))

-- ---- a line that lost one bit in a chunk
module _ (nc start stride count hole s : ℕ) (bits vs us : List ℕ) (h : hole < count) (n : length bits + 1 ≡ nc)
    (b : AllBits bits)
    (m : Mendable nc start stride count hole s bits vs us) where
  abbrev value : ℕ
  value = get_or us (start + hole * stride) 0

  -- what its sum says that the lost bit adds, it adds
  pub lost_adds : (rest g : ℕ) → total 1 (line nc start stride count vs)
      ≡ rest + total (hole * nc + 1) (digits nc (get_or vs (start + hole * stride) 0))
      → g ≤ count * nc → (rest + total (hole * nc + 1) bits + g) % (count * nc + 1) ≡ s
      → total (hole * nc + 1) (digits nc value) ≡ total (hole * nc + 1) bits + g
  lost_adds rest g e k f =
      let first : ℕ = hole * nc + 1 in
      let x : List ℕ = digits nc value in
      let t : ℕ = total first bits in
      let r = adds_most first x bits (omega arith) (bits-digits nc value) b m.comes in
      let whole : total 1 (line nc start stride count us) ≡ rest + t + r.0 =
      omega (arith, total_but nc start stride count hole h us vs m.around, r.1.1)
      in
      let own : (rest + t + r.0) % (count * nc + 1) ≡ s =
      ap (λ (v : ℕ). v % (count * nc + 1)) (sym whole) ∙ sum_of_total nc start stride count us ∙ m.has_sum
      in
      let same = same_mod (rest + t) g r.0 (count * nc + 1) (omega arith)
      (omega (arith, r.1.0, field_room count nc hole h)) (f ∙ sym own) in
      omega (arith, r.1.1)

  -- the chunk as a number
  pub lost-number : number nc (digits nc value) ≡ value
  lost-number =
      ap (number nc) (sym (append-nil (digits nc value))) ∙ number_digits nc value [] ∙ mod-eq_of_lt m.small
