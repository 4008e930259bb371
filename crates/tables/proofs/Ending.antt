-- A heavy block whose losses are all shared out: a row under the table has its chunks before there in hand or in cells,
-- and from there on as they are read. Assumes nothing.
use Prim.Native.Nat.{ℕ, ◌+◌, ◌-◌, ◌*◌, ◌<◌, ◌≤◌}
use mathlib.Core.Path.{◌≡◌, refl, sym, ap, ◌∙◌}
use mathlib.Core.List.{List}
use mathlib.Core.Logic.{inl, inr, ⊎_elim}
use native.Mathlib.Omega.{arith}
use lib.ListN.{length, get_or, drop}
use Rattle.bits.specs.Bits.{number}
use Rattle.message.specs.declared.Layout.{Layout}
use Rattle.message.proofs.Fields.{field_room}
use Rattle.vt.specs.Sum.{sum}
use Rattle.lines.specs.Lines.{values, line}
use Rattle.lines.proofs.Lines.{block_line, value_low}
use Rattle.found.specs.Found.{Given, Sent}
use Rattle.found.proofs.Found.{sent_parts}
use Rattle.column.specs.declared.Heavy.{Heavy}
use Rattle.cells.specs.Cells.{chunk_of}
use Rattle.blocks.specs.Blocks.{Later, Ended}
use Rattle.tables.specs.Tables.{lost_before, Loses, Sound, Under}
use Rattle.tables.specs.declared.Table.{Table}
use Rattle.tables.proofs.Chunk.{chunk_inside, lost-grows, lost-before, chunk-there, chunk_read}
use Rattle.tables.proofs.Making.{reached_not, end-at}

-- a block of a consistent row has its sum
pub block_sum : {l : Layout} {numbers y : List ℕ} → Given l numbers y → (x : List ℕ) → Sent l numbers y x → (i : ℕ)
    → i < l.l1 → sum (line l.nc (i * l.l2) 1 l.l2 (values l x)) ≡ get_or numbers i 0
block_sum {l} given x sent i h = sym (block_line l x sent.0 i h) ∙ (sent_parts given x sent).blocks i h

module _ {l : Layout} {numbers y : List ℕ} {heavy : Heavy} {t : Table} {hand x : List ℕ} {j : ℕ}
    (given : Given l numbers y) (sent : Sent l numbers y x) (sound : Sound l (length y) heavy t)
    (u : Under l y heavy j 0 t hand x) (h : ℕ)
    (some : h < heavy.n)
    (none : get_or t.left h 0 ≡ 0) where
  -- the block, and the losses up to its end
  abbrev i : ℕ
  i = get_or heavy.block h 0

  abbrev end : ℕ
  end = get_or heavy.end h 0

  -- from column j on no bit is lost
  lost_is : (c : ℕ) → j ≤ c → c ≤ l.l2 → lost_before l y x (i * l.l2 + c) ≡ end
  lost_is c a b =
      let room = field_room l.l1 l.l2 i (sound.inside h some) in
      let low = lost-grows l y x sent.0 (i * l.l2 + j) (i * l.l2 + c) (omega arith) (omega arith) in
      let high = lost-grows l y x sent.0 (i * l.l2 + c) (i * l.l2 + l.l2) (omega arith) (omega arith) in
      let first = rw (reached_not j 0 h (omega arith)) at (u.shifts h some) in
      omega (arith, low, high, first, none, end-at u h some)

  later : (c : ℕ) → j ≤ c → c < l.l2 → Later l y i end c (values l x)
  later c a b =
      let inside = chunk_inside l.l1 l.l2 i c (sound.inside h some) b in
      let here = lost_is c a (omega arith) in
      let next : i * l.l2 + c + 1 ≡ i * l.l2 + (c + 1) = omega arith in
      let whole : Loses l y x (i * l.l2 + c) 0 =
      rw next (omega (arith, here, lost_is (c + 1) (omega arith) (omega arith))) in
      record {
        starts = omega (arith, here, lost-before l y x sent.0 (i * l.l2 + c) inside);
        there =
            omega (
              arith,
              here,
              chunk-there l y x sent.0 (i * l.l2 + c) inside 0 whole,
              lost-before l y x sent.0 (i * l.l2 + c) inside,
            );
        as_read =
            chunk_read l y x sent.0 (i * l.l2 + c) inside 0 whole refl
            ∙ ap (λ (d : ℕ). number l.nc (drop ((i * l.l2 + c) * l.nc - d) y)) here;
      }

  -- so its numbers are those of a block that can have its sum
  pub ended : Ended l y numbers t.cells hand i end j (values l x)
  ended =
      record {
        decided = λ c a b.
            ⊎_elim
            (⊎_elim
            (λ w. absurd (omega (arith, a, rw (reached_not j 0 w.0 (omega arith)) at w.1.1.1)))
            inl)
            inr
            (u.decided.at i c (sound.inside h some) b);
        lose = λ z o e. (value_low l x sent.0 (chunk_of l t.cells z), u.loses z o);
        later = later;
        has_sum = block_sum given x sent i (sound.inside h some);
      }
