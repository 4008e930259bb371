-- A content bit by bit: a bit more of its number, and what becomes of that bit against the received row. Assumes nothing.
use Prim.Native.Nat.{ℕ, suc, ◌+◌, ◌-◌, ◌*◌, ◌/◌, ◌%◌, ◌^◌, ◌<◌, ◌≤◌}
use mathlib.Core.Path.{◌≡◌, refl, sym, ap, ◌∙◌}
use mathlib.Core.Logic.{◌⊎◌, inl, inr, ⊎_elim}
use mathlib.Core.List.{List, ◌∷◌}
use native.Mathlib.Nat.{div-one, div-add-mod, mod-lt, mul_assoc, mul_comm, mul-le-mul_right, le-mul_of_pos_right}
use native.Mathlib.Numerals.{add-one}
use native.Mathlib.Omega.{arith}
use borrow.Author.Tests.{eq-eqb, ne_eqb}
use lib.ListN.{length, get_or, drop, drop_of_length-le}
use lib.Pow.{pow_pos, shr-shr}
use lib.Seq.{drop-cons}
use Rattle.bits.specs.Bits.{digits}
use Rattle.bits.proofs.Laws.{length_digits, lt_or_ge, pow_next}
use Rattle.consistent.specs.Greedy.{losses}
use Rattle.consistent.proofs.Greedy.{length-eat, losses-most}
use Rattle.contents.specs.Contents.{Ends, EndsAfter}

-- ---- the number
-- a bit that is still to come
earlier : (left : ℕ) → 0 < left → left ≡ left - 1 + 1
earlier left h = omega arith

pub half : (left : ℕ) → 0 < left → 2 ^ left ≡ 2 ^ (left - 1) * 2
half left h = ap (λ (k : ℕ). 2 ^ k) (earlier left h) ∙ pow_next (left - 1)

-- one of the two numbers with a bit more is a byte too, whatever follows
pub more_byte : (left v b : ℕ) → 0 < left → b < 2 → (v + 1) * 2 ^ left ≤ 256 → (2 * v + b + 1) * 2 ^ (left - 1) ≤ 256
more_byte left v b h g f =
    let p : ℕ = 2 ^ (left - 1) in
    let e : (v + 1) * 2 ^ left ≡ (v + 1) * 2 * p =
    ap (λ (q : ℕ). (v + 1) * q) (half left h ∙ mul_comm p 2) ∙ sym (mul_assoc (v + 1) 2 p)
    in
    omega (arith, e, mul-le-mul_right {m = 2 * v + b + 1} {n = (v + 1) * 2} p (omega arith))

pub is_byte : (left v : ℕ) → (v + 1) * 2 ^ left ≤ 256 → v < 256
is_byte left v h = omega (arith, le-mul_of_pos_right {m = 2 ^ left} (v + 1) (pow_pos left))

-- nothing follows: the number is v
pub ends-here : (left v a : ℕ) (y : List ℕ) (w : ℕ) → left ≡ 0 → Ends left v a y w → w ≡ v
ends-here left v a y w e h = sym (div-one w) ∙ (rw e at h.0)

-- a content loses no more bits than it has
pub ends-few : (left v a : ℕ) (y : List ℕ) (w : ℕ) → left < a → Ends left v a y w → ⊥
ends-few left v a y w g h = absurd (omega (arith, losses-most (digits left w) y, length_digits left w, h.1))

-- and loses one where fewer are received
pub ends-room : (left v : ℕ) (y : List ℕ) (w : ℕ) → length y < left → Ends left v 0 y w → ⊥
ends-room left v y w g h = absurd (omega (arith, length-eat (digits left w) y, length_digits left w, h.1))

-- the next bit is 0 or 1
next_digit : (left w a : ℕ) (y : List ℕ) → 0 < left → losses (digits left w) y ≡ a
    → losses (w / 2 ^ (left - 1) % 2 ∷ digits (left - 1) w) y ≡ a
unfolding digits
next_digit left w a y g h = let e : left ≡ suc (left - 1) = omega arith in rw e at h

pub ends_more : (left v a : ℕ) (y : List ℕ) (w : ℕ) → 0 < left → Ends left v a y w
    → EndsAfter 0 (left - 1) (2 * v) a y w ⊎ EndsAfter 1 (left - 1) (2 * v + 1) a y w
ends_more left v a y w g h =
    let u : ℕ = w / 2 ^ (left - 1) in
    let high : u / 2 ≡ v = shr-shr w (left - 1) 1 ∙ ap (λ (k : ℕ). w / 2 ^ k) (sym (earlier left g)) ∙ h.0 in
    let parts : 2 * v + u % 2 ≡ u = rw high at (div-add-mod u 2) in
    let lost = next_digit left w a y g h.1 in
    ⊎_elim
    (λ i. let z : u % 2 ≡ 0 = omega arith in inl (omega arith, rw z at lost))
    (λ i. let z : u % 2 ≡ 1 = omega (arith, mod-lt u {m = 2} (omega arith)) in inr (omega arith, rw z at lost))
    (lt_or_ge (u % 2) 1)

-- ---- the bit against the received row
-- it takes the next received bit
pub after-taken : (b left v a : ℕ) (y : List ℕ) (p w : ℕ) → p < length y → get_or y p 0 ≡ b
    → EndsAfter b left v a (drop p y) w → Ends left v a (drop (p + 1) y) w
unfolding losses
after-taken b left v a y p w i e h =
    (h.0, rw (add-one p) (rw (drop-cons y p 0 i, eq-eqb b (get_or y p 0) (sym e)) at h.1))

-- it is lost
is_lost : (b p : ℕ) (x y : List ℕ) → (p < length y → get_or y p 0 ≡ b → ⊥)
    → losses (b ∷ x) (drop p y) ≡ suc (losses x (drop p y))
unfolding losses
is_lost b p x y n =
    ⊎_elim
    (λ i. rw (drop-cons y p 0 i, ne_eqb b (get_or y p 0) (λ e. n i (sym e))) refl)
    (λ i. rw (drop_of_length-le y i) refl)
    (lt_or_ge p (length y))

pub after-lost : (b left v a : ℕ) (y : List ℕ) (p w : ℕ) → (p < length y → get_or y p 0 ≡ b → ⊥)
    → EndsAfter b left v a (drop p y) w → (0 < a) × Ends left v (a - 1) (drop p y) w
after-lost b left v a y p w n h =
    let e = is_lost b p (digits left w) y n in
    (omega (arith, h.1), (h.0, omega (arith, h.1)))

-- ---- where no loss is left
-- the next bit must be the next received one
pub follow_none : (left v : ℕ) (y : List ℕ) (p w : ℕ) → 0 < left
    → ((b : ℕ) → b < 2 → p < length y → get_or y p 0 ≡ b → ⊥) → Ends left v 0 (drop p y) w → ⊥
follow_none left v y p w h none e =
    ⊎_elim
    (λ z. omega (arith, (after-lost 0 (left - 1) (2 * v) 0 y p w (none 0 (omega arith)) z).0))
    (λ z. omega (arith, (after-lost 1 (left - 1) (2 * v + 1) 0 y p w (none 1 (omega arith)) z).0))
    (ends_more left v 0 (drop p y) w h e)

pub follow_next : (left v b : ℕ) (y : List ℕ) (p w : ℕ) → 0 < left → b < 2 → p < length y → get_or y p 0 ≡ b
    → Ends left v 0 (drop p y) w → Ends (left - 1) (2 * v + b) 0 (drop (p + 1) y) w
follow_next left v b y p w h low i is e = ⊎_elim zero-next one-next (ends_more left v 0 (drop p y) w h e)
  where
    zero-next : EndsAfter 0 (left - 1) (2 * v) 0 (drop p y) w → Ends (left - 1) (2 * v + b) 0 (drop (p + 1) y) w
    zero-next z =
        ⊎_elim
        (λ k. let q : b ≡ 0 = omega arith in
        let s : 2 * v + b ≡ 2 * v = omega arith in
        rw s (after-taken 0 (left - 1) (2 * v) 0 y p w i (is ∙ q) z))
        (λ k. absurd (omega (arith, (after-lost 0 (left - 1) (2 * v) 0 y p w (λ u d. omega (arith, d, is)) z).0)))
        (lt_or_ge b 1)

    one-next : EndsAfter 1 (left - 1) (2 * v + 1) 0 (drop p y) w → Ends (left - 1) (2 * v + b) 0 (drop (p + 1) y) w
    one-next z =
        ⊎_elim
        (λ k. absurd (omega (arith, (after-lost 1 (left - 1) (2 * v + 1) 0 y p w (λ u d. omega (arith, d, is)) z).0)))
        (λ k. let q : b ≡ 1 = omega arith in
        let s : 2 * v + b ≡ 2 * v + 1 = omega arith in
        rw s (after-taken 1 (left - 1) (2 * v + 1) 0 y p w i (is ∙ q) z))
        (lt_or_ge b 1)
