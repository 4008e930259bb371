-- What sharing out answers: a chunk is read, or becomes a cell, or no row under the table has that share. Assumes
-- nothing.
use Prim.Native.Nat.{ℕ, ◌+◌, ◌*◌, ◌-◌, ◌<◌, ◌≤◌}
use mathlib.Core.Path.{◌≡◌, refl}
use mathlib.Core.Bool.{true, false, false≢true}
use mathlib.Core.List.{List}
use mathlib.Core.Logic.{inl, inr, ⊎_elim}
use native.Mathlib.Omega.{arith}
use lib.ListN.{length, get_or, set, drop}
use lib.Seq.{get_or-set_same, get_or-set_other}
use Rattle.bits.specs.Bits.{longest, number, digits, most_chunks, most_in_line}
use Rattle.rows.specs.Order.{Row}
use Rattle.message.specs.Layout.{row_bits}
use Rattle.message.specs.declared.Layout.{Layout}
use Rattle.message.proofs.Fields.{field_room}
use Rattle.message.proofs.Legal.{Sizes, legal_bounds, sizes}
use Rattle.consistent.specs.Greedy.{losses}
use Rattle.lines.specs.Lines.{values}
use Rattle.cells.proofs.Same.{same_refl, same_set}
use Rattle.column.specs.Column.{chunk_at}
use Rattle.tables.specs.Tables.{lost_before, Loses, Under, with_cell, Sharable, Shared}
use Rattle.column.specs.declared.Heavy.{Heavy}
use Rattle.tables.specs.declared.Table.{Table}
use Rattle.tables.proofs.Chunk.{chunk_inside, lost-before, place-within, chunk-within, chunk_read, chunk-loses}
use Rattle.tables.proofs.Making.{Twelve, undecided_share, undecided_here, fewer_cell}
use Rattle.tables.proofs.Making.{shift_at, under-read, under_cell, room_cell, sound_cell}

module _ {l : Layout} {y : List ℕ} {heavy : Heavy} {j h a : ℕ} {t : Table} (q : Sharable l y heavy j h a t) where
  -- the chunk is one of the row
  pub inside : chunk_at l heavy j h < l.l1 * l.l2
  inside = chunk_inside l.l1 l.l2 (get_or heavy.block h 0) j (q.sound.inside h q.some) q.column

  size : Sizes l
  size = sizes l (legal_bounds l q.is_legal)

  -- what follows for its number, for its place, and for the column
  pub chunk-low : chunk_at l heavy j h < most_chunks
  chunk-low = omega (arith, inside, size.chunks)

  pub start-low : chunk_at l heavy j h * l.nc ≤ longest
  start-low = omega (arith, field_room (l.l1 * l.l2) l.nc (chunk_at l heavy j h) inside, size.row)

  pub received-low : length y ≤ longest
  received-low = omega (arith, q.short, size.row)

  pub column-low : j < most_in_line
  column-low = omega (arith, q.column, size.l2_high)

  pub chunk-bits : l.nc ≤ 8
  chunk-bits = (legal_bounds l q.is_legal).nc_high

  -- there is room for a cell
  pub cell_room : 0 < a → length t.left ≡ 6 → length heavy.block ≡ 6 → t.cells.n < 12
  cell_room pos in_left in_block = room_cell q.sound j h a 0 q.some q.less in_left in_block pos

-- where the chunk is read: the place for the losses that a row has before it
module _ {l : Layout} {y : List ℕ} {heavy : Heavy} {j h a : ℕ} {t : Table} (q : Sharable l y heavy j h a t)
    {hand : List ℕ} (place : ℕ)
    (read : (d : ℕ) → d + get_or t.left h 0 ≡ get_or heavy.end h 0 → d ≤ chunk_at l heavy j h * l.nc
    → chunk_at l heavy j h * l.nc - d ≤ length y → place ≡ chunk_at l heavy j h * l.nc - d) where
  -- a row under the table: its chunk is read there
  module _ (x : List ℕ) (row : Row (row_bits l) x) (u : Under l y heavy j h t hand x) where
    abbrev chunk : ℕ
    chunk = chunk_at l heavy j h

    place_at : place ≡ chunk * l.nc - lost_before l y x chunk
    place_at =
        read (lost_before l y x chunk) (shift_at u q.some) (lost-before l y x row chunk (inside q))
        (place-within l y x row chunk (inside q))

    reaches : place ≤ length y
    reaches = rw place_at (place-within l y x row chunk (inside q))

    module _ (own : Loses l y x chunk a) where
      loses : losses (digits l.nc (get_or (values l x) chunk 0)) (drop place y) ≡ a
      loses = rw place_at (chunk-loses l y x row chunk (inside q) a own)

      fits : a ≡ 0 → place + l.nc ≤ length y
      fits z = rw place_at (chunk-within l y x row chunk (inside q) a own z)

      is_read : a ≡ 0 → get_or (values l x) chunk 0 ≡ number l.nc (drop place y)
      is_read z = rw place_at (chunk_read l y x row chunk (inside q) a own z)

  -- no row has that share
  failed : ((x : List ℕ) → Row (row_bits l) x → Under l y heavy j h t hand x → Loses l y x (chunk_at l heavy j h) a → ⊥)
      → Shared l y heavy j h a t hand false t hand
  failed none =
      record {
        sound = q.sound;
        falls = λ e. absurd (false≢true e);
        others = λ s n. refl;
        under = λ x row u own. absurd (none x row u own);
        fewer = λ i c. ⊎_elim (λ w. inl (undecided_share heavy j h i c w)) inr;
        same = same_refl;
      }

  -- too few bits are left to read the chunk
  pub shared_short : a ≡ 0 → length y < place + l.nc → Shared l y heavy j h a t hand false t hand
  shared_short z short = failed (λ x row u own. omega (arith, fits x row u own z))

  -- the chunk is read
  pub shared_read : a ≡ 0 → l.l1 * l.l2 ≤ length hand
      → Shared l y heavy j h a t hand true t (set hand (chunk_at l heavy j h) (number l.nc (drop place y)))
  shared_read z n =
      let v = number l.nc (drop place y) in
      record {
        sound = q.sound;
        falls = λ e. omega (arith, z);
        others = λ s n. refl;
        under = λ x row u own.
            (refl, under-read u q.some v (rw z at own) (is_read x row u own z) (omega (arith, inside q)));
        fewer = λ i c. ⊎_elim (λ w. inl (undecided_share heavy j h i c w)) inr;
        same = same_set (get_or heavy.block h 0) j v q.column (inl (undecided_here heavy j h q.some)) same_refl;
      }

  -- the received row does not reach to where the chunk would be read
  pub shared_beyond : length y < place → Shared l y heavy j h a t hand false t hand
  shared_beyond beyond = failed (λ x row u own. omega (arith, reaches x row u))

  -- the chunk becomes a cell
  pub shared_cell : 0 < a → length t.left ≡ 6 → length heavy.block ≡ 6 → Twelve t.cells → place ≤ length y
      → Shared l y heavy j h a t hand true (with_cell t h (get_or heavy.block h 0) j a place) hand
  shared_cell pos in_left in_block twelve within =
      let in-range : h < length t.left = omega (arith, q.some, q.sound.few) in
      let unused = q.sound.fresh t.cells.n (omega arith) in
      let room = cell_room q pos in_left in_block in
      record {
        sound = sound_cell q.sound j h a place q.some q.less in_left in_block pos q.column within twelve;
        falls = λ e. omega (arith, get_or-set_same t.left h (get_or t.left h 0 - a) 0 in-range, q.less);
        others = λ s n. get_or-set_other t.left h s (get_or t.left h 0 - a) 0 n;
        under = λ x row u own.
            (refl, under_cell u q.some a place own pos q.less in-range twelve room unused (loses x row u own));
        fewer = fewer_cell heavy j h q.some t.cells twelve room unused a place;
        same = same_refl;
      }
