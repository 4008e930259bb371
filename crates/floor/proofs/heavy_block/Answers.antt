use Rattle.std.proofs.Common.{◌≡◌, ℕ, List, ◌+◌, ◌-◌, ◌*◌, ◌<◌, ◌≤◌, length, inl, inr, ⊎_elim, ◌∙◌, arith}
use Rattle.std.proofs.lemmas.Cmp.{ranked}
use Rattle.bits.specs.Bits.{unpack}
use Rattle.bits.proofs.Laws.{length-unpack, bits-unpack}
use Rattle.rows.specs.Order.{Less, Row}
use Rattle.message.specs.Layout.{row_bits, block_bits}
use Rattle.message.proofs.Fields.{field_room}
use Rattle.message.proofs.Legal.{Sizes, legal_bounds, sizes}
use Rattle.floor.specs.Floor.{AtLeast, BlockLoses}
use Rattle.floor.proofs.Floor.{Under, Stands, Rest, Bit, bit_after, bit_same, compared_same, compared_unlike}
use Rattle.floor.proofs.heavy_block.Goals as goal
use Rattle.floor.proofs.heavy_block.Goals.{Start, At-loop-u, After-cmp}

-- the block's bits stand in the row
room : (c : Start) → (c.args.b * block_bits c.args.l + block_bits c.args.l ≤ row_bits c.args.l) × Sizes c.args.l
room c =
    let l = c.args.l in
    let size = sizes l (legal_bounds l c.requires.0) in
    (omega (arith, field_room l.l1 (block_bits l) c.args.b c.requires.1.1.0, size.l1_block), size)

-- the row `last` has all bits
long : (c : Start) → row_bits c.args.l ≤ length (unpack c.args.last.now)
long c = omega (arith, length-unpack c.args.last.now, c.requires.1.1.1)

-- a row of which this is asked
abbrev Asked : (c : Start) (x : List ℕ) → Type 0
Asked c x =
    let a = c.args in
    Under a.y.now (unpack a.last.now) (a.b * block_bits a.l) (block_bits a.l) a.d a.a x

asked : (c : Start) (x : List ℕ) →
    let a = c.args in
    Row (row_bits a.l) x → BlockLoses a.l a.y.now a.b a.d a.a x → AtLeast (a.b * block_bits a.l) (unpack a.last.now) x
    → Asked c x
asked c x r q k =
    let h = (room c).0 in
    record { bits = r.1; long = omega (arith, r.0); before = q.before; inside = q.inside; least = k }

-- what the bit that was read says of such a row
module _ (c : After-cmp) where
  abbrev start : Start
  start = (goal.at.After-cmp c).Start

  abbrev z : List ℕ
  z = unpack c.args.last.now

  abbrev at_bit : ℕ
  at_bit = c.args.b * block_bits c.args.l + c.loop-u.u

  abbrev w : ℕ
  w = block_bits c.args.l - c.loop-u.u

  abbrev all : ℕ
  all = c.args.d + c.args.a

  rest : (x : List ℕ) → Asked start x → Rest c.args.y.now z x at_bit w c.loop-u.left all c.loop-u.p
  rest x q =
      let h : c.loop-u.u < block_bits c.args.l = c.loop-u-test.true in
      let e : at_bit + w ≡ c.args.b * block_bits c.args.l + block_bits c.args.l = omega arith in
      record {
        some = omega arith;
        in_z = omega (arith, (room start).0, long start);
        in_x = omega (arith, q.long);
        place = c.loop-u.invariant.place;
        end = rw e q.inside;
      }

  bit : Bit c.args.y.now c.loop-u.p c.loop-u.left w c.next_bit-next.result c.least_lost-lost.result c.bit_of-least.result
  bit =
      record {
        next_is = c.next_bit-next.ensures.0;
        lost_is = c.least_lost-lost.ensures.0;
        bit_is = c.bit_of-least.ensures;
      }

  above : c.number_in-held.result < c.bit_of-least.result → (x : List ℕ) → Asked start x → Less z x
  above h x q =
      bit_after z x (bits-unpack c.args.last.now) q.bits c.args.y.now c.requires.1.0 (rest x q) bit
      (omega (arith, c.number_in-held.ensures)) (c.loop-u.invariant.stands x q)

  agrees : c.bit_of-least.result ≡ c.number_in-held.result → (x : List ℕ) → Asked start x
      → Stands c.args.y.now z x (at_bit + 1) (c.loop-u.left - c.least_lost-lost.result) all
  agrees h x q =
      bit_same z x (bits-unpack c.args.last.now) q.bits c.args.y.now c.requires.1.0 (rest x q) bit
      (h ∙ c.number_in-held.ensures) (c.loop-u.left - c.least_lost-lost.result)
      (omega (arith, c.least_lost-lost.ensures.1.1)) (c.loop-u.invariant.stands x q)

pub overflow_mul-nb : goal.overflow_mul-nb
overflow_mul-nb c = omega (arith, (sizes c.args.l (legal_bounds c.args.l c.requires.0)).block)

pub overflow_mul-from : goal.overflow_mul-from
overflow_mul-from c = let r = room (goal.at.overflow_mul-from c).Start in omega (arith, r.0, r.1.row)

pub overflow_add-from : goal.overflow_add-from
overflow_add-from c = let r = room (goal.at.overflow_add-from c).Start in omega (arith, r.0, r.1.row)

pub number_in-held-requires : goal.number_in-held-requires
number_in-held-requires c =
    let r = room (goal.at.number_in-held-requires c).Start in
    (omega arith, (omega (arith, c.requires.1.1.1, r.1.row), omega (arith, c.requires.1.1.1, r.0)))

pub returns-in_default : goal.returns-in_default
returns-in_default c =
    let at = goal.at.returns-in_default c in
    λ x r q. compared_unlike c.bit_of-least.result c.number_in-held.result c.cmp.ensures c.in_default.not-Equal
    (λ i k. above at.After-cmp i x (asked at.Start x r q k))

pub overflow_add-p : goal.overflow_add-p
overflow_add-p c =
    let r = room (goal.at.overflow_add-p c).Start in
    let v = c.loop-u.invariant in
    omega (arith, v.place, v.few, r.0, r.1.row, c.loop-u-test.true)

pub loop-u-preserved : goal.loop-u-preserved
loop-u-preserved c =
    let lost = c.least_lost-lost.ensures.1 in
    let own = c.loop-u.invariant in
    let from : ℕ = c.args.b * block_bits c.args.l in
    let same : c.bit_of-least.result ≡ c.number_in-held.result = ranked _ _ _ c.in-Equal.ensures in
    let next : from + (c.loop-u.u + 1) ≡ from + c.loop-u.u + 1 = omega arith in
    record {
      few = omega (arith, own.few);
      place = omega (arith, own.place, lost.0, lost.1);
      stands = λ x q. rw next (agrees (goal.at.loop-u-preserved c).After-cmp same x q);
    }

pub returns : goal.returns
returns c =
    let start = (goal.at.returns c).Start in
    let nb : ℕ = block_bits c.args.l in
    let e : c.loop-u.u ≡ nb = omega arith in
    λ x r q. compared_same (λ k. ⊎_elim inl (λ w. inr (rw e at w.0)) (c.loop-u.invariant.stands x (asked start x r q k)))
