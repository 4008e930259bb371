-- What the loops over a line ask: where its chunks stand, what a slice holds after a chunk more, and what a chunk adds
-- to the total of the positions of the ones. Assumes nothing.
use Prim.Native.Nat.{ℕ, suc, ◌+◌, ◌-◌, ◌*◌, ◌%◌, ◌<◌, ◌≤◌}
use mathlib.Core.Path.{◌≡◌, refl, sym, ap, ◌∙◌}
use mathlib.Core.List.{List, ◌++◌, append_assoc, append-nil}
use native.Mathlib.Nat.{zero-mul, mul-le-mul, mul-le-mul_right, suc-mul, le_trans, mod-lt}
use native.Mathlib.Omega.{arith}
use lib.ListN.{length, get_or, take, drop, length-append, take-append-drop}
use lib.Seq.{length-take-le}
use Rattle.bits.specs.Bits.{longest_line, digits}
use Rattle.bits.proofs.Copy.{part_next}
use Rattle.bits.proofs.Laws.{length_digits}
use Rattle.message.proofs.Fields.{field_room, field_step}
use Rattle.message.proofs.Positions.{total-append, total-high}
use Rattle.vt.specs.Sum.{total, sum}
use Rattle.lines.specs.Lines.{line, Inside}
use Rattle.lines.proofs.Lines.{length-line, bits-line, line_cons, line_split}

-- chunk t of a line
pub record Chunk (nc start stride count size t : ℕ) : Type 0 where
  pub stands : start + t * stride < size
  pub room : t * nc + nc ≤ count * nc

pub chunk_of : (nc start stride count size t : ℕ) → Inside nc start stride count size → t < count
    → Chunk nc start stride count size t
chunk_of nc start stride count size t i h =
    record {
      stands = omega (arith, i.last, mul-le-mul_right stride h, suc-mul t stride);
      room = field_room count nc t h;
    }

-- a chunk more at the end of a line
line-end : (nc start stride t : ℕ) (vs : List ℕ)
    → line nc start stride (t + 1) vs ≡ line nc start stride t vs ++ digits nc (get_or vs (start + t * stride) 0)
unfolding line
line-end nc start stride t vs =
    line_split nc start stride t 1 vs
    ∙ ap (λ (e : List ℕ). line nc start stride t vs ++ e) (append-nil (digits nc (get_or vs (start + t * stride) 0)))

-- the slice with t chunks of a line, and with one chunk more
abbrev pub spread_to : (nc start stride : ℕ) → List ℕ → (at : ℕ) → List ℕ → ℕ → List ℕ
spread_to nc start stride vs at o t = take at o ++ line nc start stride t vs ++ drop (at + t * nc) o

pub spread_none : (nc start stride at : ℕ) (vs o : List ℕ) → o ≡ spread_to nc start stride vs at o 0
unfolding line
spread_none nc start stride at vs o =
    let e : at + 0 * nc ≡ at = omega (arith, zero-mul nc) in
    rw (e, append-nil) (sym (take-append-drop at o))

pub spread_next : (nc start stride at t : ℕ) (vs o p q : List ℕ) → at + (t * nc + nc) ≤ length o
    → p ≡ spread_to nc start stride vs at o t
    → q ≡ take (at + t * nc) p ++ digits nc (get_or vs (start + t * stride) 0) ++ drop (at + t * nc + nc) p
    → q ≡ spread_to nc start stride vs at o (t + 1)
spread_next nc start stride at t vs o p q h e f =
    let front : List ℕ = take at o ++ line nc start stride t vs in
    let d : List ℕ = digits nc (get_or vs (start + t * stride) 0) in
    let n : length front ≡ at + t * nc =
    length-append (take at o) (line nc start stride t vs)
    ∙ omega (arith, length-take-le at o (omega arith), length-line nc start stride t vs)
    in
    f ∙ rw (e, part_next front d o (at + t * nc) nc n, field_step at nc t, line-end nc start stride t vs)
    (simp append_assoc)

-- ---- the total of a line
-- chunk t and the chunks behind it
pub total_turn : (nc start stride count t : ℕ) (vs : List ℕ) → t < count
    → total (t * nc + 1) (line nc (start + t * stride) stride (count - t) vs)
    ≡ total (t * nc + 1) (digits nc (get_or vs (start + t * stride) 0))
    + total ((t + 1) * nc + 1) (line nc (start + (t + 1) * stride) stride (count - (t + 1)) vs)
total_turn nc start stride count t vs h =
    let d : List ℕ = digits nc (get_or vs (start + t * stride) 0) in
    let m : count - t ≡ suc (count - (t + 1)) = omega arith in
    let f : t * nc + 1 + nc ≡ (t + 1) * nc + 1 = omega (arith, field_step 0 nc t) in
    let behind : List ℕ = line nc (start + t * stride + stride) stride (count - (t + 1)) vs in
    rw (m, line_cons nc (start + t * stride) stride (count - (t + 1)) vs, total-append (t * nc + 1) d behind)
    (rw (length_digits nc (get_or vs (start + t * stride) 0), f, field_step start stride t) refl)

pub total-start : (nc start stride count : ℕ) (vs : List ℕ)
    → total (0 * nc + 1) (line nc (start + 0 * stride) stride (count - 0) vs) ≡ total 1 (line nc start stride count vs)
total-start nc start stride count vs =
    let a : 0 * nc + 1 ≡ 1 = omega (arith, zero-mul nc) in
    let b : start + 0 * stride ≡ start = omega (arith, zero-mul stride) in
    let m : count - 0 ≡ count = omega arith in
    rw (a, b, m) refl

pub total_done : (nc start stride count t : ℕ) (vs : List ℕ) → count ≤ t
    → total (t * nc + 1) (line nc (start + t * stride) stride (count - t) vs) ≡ 0
unfolding total line
total_done nc start stride count t vs h = let m : count - t ≡ 0 = omega arith in rw m refl

pub total-most : (nc start stride count : ℕ) (vs : List ℕ) → count * nc ≤ longest_line
    → total 1 (line nc start stride count vs) ≤ longest_line * (1 + longest_line)
total-most nc start stride count vs h =
    let more : 1 + count * nc ≤ 1 + longest_line = omega arith in
    let l : List ℕ = line nc start stride count vs in
    le_trans (total-high 1 l (bits-line nc start stride count vs))
    (rw (length-line nc start stride count vs) (mul-le-mul h more))

-- the sum of a line is its total, modulo its length and one
pub sum_of_total : (nc start stride count : ℕ) (vs : List ℕ)
    → total 1 (line nc start stride count vs) % (count * nc + 1) ≡ sum (line nc start stride count vs)
unfolding sum
sum_of_total nc start stride count vs =
    ap (λ (n : ℕ). total 1 (line nc start stride count vs) % (n + 1)) (sym (length-line nc start stride count vs))

-- and is below that
pub sum_low : (nc start stride count : ℕ) (vs : List ℕ) → sum (line nc start stride count vs) < count * nc + 1
sum_low nc start stride count vs =
    rw (← sum_of_total nc start stride count vs) (mod-lt (total 1 (line nc start stride count vs)) (omega arith))
