-- A block in hand is compared, a heavy one is bounded by its losses.
use Rattle.std.proofs.Common.{◌≡◌, ◌+◌, ◌*◌, ◌≤◌, ◌∙◌, refl, sym, drop, length-drop, arith}
use lib.Seq.{length-take-le}
use Rattle.bits.specs.Bits.{most_chunks}
use Rattle.message.proofs.Fields.{field_room}
use Rattle.message.proofs.Legal.{Sizes, legal_bounds, sizes}
use Rattle.lines.specs.Lines.{values, unlike}
use Rattle.anchor.specs.Anchor.{over}
use Rattle.anchor.proofs.Anchor.{light_bound, heavy_bound}
use Rattle.anchor.proofs.block_most.Goals as goal
use Rattle.anchor.proofs.block_most.Goals.{Start}

-- the block's chunks stand in the row
room : (c : Start) → (c.args.b * c.args.l.l2 + c.args.l.l2 ≤ c.args.l.l1 * c.args.l.l2) × Sizes c.args.l
room c =
    let l = c.args.l in
    (field_room l.l1 l.l2 c.args.b c.requires.1.1.0, sizes l (legal_bounds l c.requires.0.0.is_legal))

pub overflow_mul-from : goal.overflow_mul-from
overflow_mul-from c = let r = room (goal.at.overflow_mul-from c).Start in omega (arith, r.0, r.1.chunks)

pub count_unlike-requires : goal.count_unlike-requires
count_unlike-requires c =
    let r = room (goal.at.count_unlike-requires c).Start in
    let d = c.args.desk.now in
    let n = length-drop 1 d in
    let w = length-take-le most_chunks (drop 1 d) (omega arith) in
    (omega (arith, r.0), omega (arith, r.0, r.1.chunks))

pub returns-then-a-le1 : goal.returns-then-a-le1
returns-then-a-le1 c =
    let a = c.args in
    let l = a.l in
    let r = room (goal.at.returns-then-a-le1 c).Start in (
      λ vs x p q lo hi same.
          let e : over (unlike (values l x) vs) (a.b * l.l2) l.l2 ≡ c.count_unlike.result =
          light_bound l a.y.now vs a.desk.now _ (values l x) a.row.now a.b r.1.chunks p refl c.requires.1.1.0
          (same c.if-a-le1.true)
          ∙ sym c.count_unlike.ensures.0
          in
          omega arith,
      omega (arith, c.count_unlike.ensures.1, r.1.l2_high),
    )

pub count_wide-requires : goal.count_wide-requires
count_wide-requires c =
    let r = room (goal.at.count_wide-requires c).Start in
    (c.requires.0.1, (omega (arith, r.0, r.1.chunks), c.requires.1.1.1.0))

pub overflow_add-result : goal.overflow_add-result
overflow_add-result c =
    let r = room (goal.at.overflow_add-result c).Start in
    omega (arith, c.count_wide.ensures.1, r.1.l2_high)

pub returns : goal.returns
returns c =
    let a = c.args in
    let r = room (goal.at.returns c).Start in (
      λ vs x p q lo hi same.
          let e =
          heavy_bound c.requires.0.0 x q vs a.desk.now p a.b a.d a.a c.requires.1.1.0 c.requires.1.1.1.0 in
          omega (arith, e lo hi, c.count_wide.ensures.0),
      omega (arith, c.count_wide.ensures.1, r.1.l2_high),
    )
