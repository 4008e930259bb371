-- A chunk of a row and its own losses: where it is read in the received row, what it loses there, and that a chunk
-- without a loss is the next bits of the received row. Assumes nothing.
use Prim.Native.Nat.{ℕ, ◌+◌, ◌*◌, ◌-◌, ◌<◌, ◌≤◌}
use mathlib.Core.Path.{◌≡◌, refl, sym, ap, ◌∙◌}
use mathlib.Core.List.{List}
use native.Mathlib.Nat.{add-mul, one-mul, mul-le-mul_right}
use native.Mathlib.Omega.{arith}
use lib.ListN.{length, get_or, take, drop, length-drop}
use lib.Seq.{length-take-le}
use Rattle.bits.specs.Bits.{number, digits}
use Rattle.bits.proofs.Laws.{number-take}
use Rattle.rows.specs.Order.{Row}
use Rattle.message.specs.Layout.{row_bits}
use Rattle.message.specs.declared.Layout.{Layout}
use Rattle.message.proofs.Fields.{field_room}
use Rattle.consistent.specs.Greedy.{losses}
use Rattle.consistent.proofs.Greedy.{piece, whole}
use Rattle.consistent.proofs.Shift.{lost-most, lost-more, piece_loses}
use Rattle.lines.specs.Lines.{values}
use Rattle.lines.proofs.Lines.{value-at, chunk-digits}
use Rattle.tables.specs.Tables.{lost_before, Loses}

-- chunk j of block i is one of the row
pub chunk_inside : (l1 l2 i j : ℕ) → i < l1 → j < l2 → i * l2 + j < l1 * l2
chunk_inside l1 l2 i j h g = omega (arith, field_room l1 l2 i h)

-- the next chunk starts nc bits on
pub chunk_next : (c nc : ℕ) → (c + 1) * nc ≡ c * nc + nc
chunk_next c nc = omega (arith, add-mul c 1 nc, one-mul nc)

-- as many bits are lost before a later chunk, or more
pub lost-grows : (l : Layout) (y x : List ℕ) → Row (row_bits l) x → (c e : ℕ) → c ≤ e → e ≤ l.l1 * l.l2
    → lost_before l y x c ≤ lost_before l y x e
lost-grows l y x row c e h g =
    let a : c * l.nc ≤ e * l.nc = mul-le-mul_right l.nc h in
    let b : e * l.nc ≤ row_bits l = mul-le-mul_right l.nc g in
    let m = lost-more x y (c * l.nc) (e * l.nc - c * l.nc) (omega (arith, row.0)) in
    let n : c * l.nc + (e * l.nc - c * l.nc) ≡ e * l.nc = omega arith in
    omega (arith, rw n at m)

module _ (l : Layout) (y x : List ℕ) (row : Row (row_bits l) x) (c : ℕ) (inside : c < l.l1 * l.l2) where
  -- the chunk stands in the row
  room : c * l.nc + l.nc ≤ length x
  room = omega (arith, field_room (l.l1 * l.l2) l.nc c inside, row.0)

  -- no more bits are lost before the chunk than stand there
  pub lost-before : lost_before l y x c ≤ c * l.nc
  lost-before = lost-most x y (c * l.nc) (omega (arith, room))

  -- the received row reaches to where the chunk is read
  pub place-within : c * l.nc - lost_before l y x c ≤ length y
  place-within =
      let n = length-take-le (c * l.nc) x (omega (arith, room)) in
      (piece (c * l.nc) (lost_before l y x c) (take (c * l.nc) x) y n refl).within

  -- it is matched against the bits from that place on, and has a losses
  module _ (a : ℕ) (own : Loses l y x c a) where
    abbrev chunk : List ℕ
    chunk = take l.nc (drop (c * l.nc) x)

    abbrev rest : List ℕ
    rest = drop (c * l.nc - lost_before l y x c) y

    loses-bits : losses chunk rest ≡ a
    loses-bits =
        piece_loses x y (c * l.nc) l.nc (lost_before l y x c) a (omega (arith, room)) refl
        (ap (λ (s : ℕ). losses (take s x) y) (sym (chunk_next c l.nc)) ∙ own)

    length-chunk : length chunk ≡ l.nc
    length-chunk = length-take-le l.nc (drop (c * l.nc) x) (simp length-drop (omega (arith, room)))

    pub chunk-loses : losses (digits l.nc (get_or (values l x) c 0)) rest ≡ a
    chunk-loses = rw (chunk-digits l x row c inside) loses-bits

    -- it has no more losses than bits
    pub chunk-few : a ≤ l.nc
    chunk-few =
        let most = lost-most (drop (c * l.nc) x) rest l.nc (simp length-drop (omega (arith, room))) in
        omega (arith, loses-bits, most)

    -- the bits that it takes are there
    pub chunk-there : c * l.nc - lost_before l y x c + l.nc ≤ length y + a
    chunk-there =
        let p = piece l.nc a chunk rest length-chunk loses-bits in
        omega (arith, p.within, chunk-few, length-drop (c * l.nc - lost_before l y x c) y, place-within)

    -- without a loss there are nc bits from that place on, and they are the chunk
    pub chunk-within : a ≡ 0 → c * l.nc - lost_before l y x c + l.nc ≤ length y
    chunk-within z =
        let p = piece l.nc 0 chunk rest length-chunk (loses-bits ∙ z) in
        omega (arith, p.within, length-drop (c * l.nc - lost_before l y x c) y, place-within)

    pub chunk_read : a ≡ 0 → get_or (values l x) c 0 ≡ number l.nc rest
    chunk_read z =
        let e : chunk ≡ take l.nc rest =
        whole chunk rest (loses-bits ∙ z) ∙ ap (λ (n : ℕ). take n rest) length-chunk in
        value-at l x c inside ∙ sym (number-take l.nc (drop (c * l.nc) x)) ∙ ap (number l.nc) e
        ∙ number-take l.nc rest
