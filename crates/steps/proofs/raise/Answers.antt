-- `steps::raise` meets its contract: what the heavy blocks must bring is what the sum of the chunks in hand lacks, and each
-- row that crosses the column has a choice of its own in each block. Rests on Sweeping.antt. Assumes nothing.
use Rattle.std.proofs.Common.{ℕ, ◌+◌, ◌*◌, ◌<◌, ◌≤◌, refl, ap, get_or, arith}
use Rattle.std.proofs.Math.Nat.{mul-le-mul_right}
use Rattle.states.specs.States.{state, stride, each}
use Rattle.column.proofs.Rows.{string_low, known-low, crosses-brings}
use Rattle.choices.specs.Choices.{Offers}
use Rattle.steps.specs.Steps.{brought_in}
use Rattle.steps.proofs.Sweeping.{its, its_picks, its_above}
use Rattle.steps.proofs.raise.Goals as goal

pub overflow_mul-modulus : goal.overflow_mul-modulus
overflow_mul-modulus c = omega (arith, (string_low c.requires.0.0 c.args.j c.requires.0.1.1.0).modulus)

pub overflow_add-modulus : goal.overflow_add-modulus
overflow_add-modulus c = omega (arith, (string_low c.requires.0.0 c.args.j c.requires.0.1.1.0).modulus)

pub missing-need-requires : goal.missing-need-requires
missing-need-requires c =
    let b = string_low c.requires.0.0 c.args.j c.requires.0.1.1.0 in
    (omega (arith, b.sum, c.from.ensures), omega (arith, b.modulus))

pub sweep-requires : goal.sweep-requires
sweep-requires c =
    let a = c.args in
    let p = c.requires in
    let f = p.1.0.0 in
    let e = c.list_choices-from.ensures in
    let none = c.start.ensures in
    let room : stride (each a.shape.size) a.heavy.n ≤ a.shape.states =
    omega (arith, ap (stride (each a.shape.size)) f.blocks, f.shaped.all) in (
      record {
        few = omega (arith, f.blocks, p.0.0.few);
        shaped = f.shaped;
        states = f.states;
        counted = p.1.0.1;
        long-fresh = p.1.1;
        below = c.missing-need.ensures.0;
        high = omega (arith, (string_low p.0.0 a.j p.0.1.1.0).modulus);
        listed = λ b t h first last.
            let own = e.1.1 b (omega (arith, h, f.blocks)) in
            let small = own.1.small t first last in
            let top = mul-le-mul_right (stride (each a.shape.size) b) (f.within b h) in (
              omega (arith, last, own.0, e.1.0, e.0),
              record {
                adds_small = omega (arith, small.adds_small, top);
                least-small = small.least-small;
                most-small = small.most-small;
                other-small = small.other-small;
              },
            );
      },
      record {
        inside = omega (arith, f.blocks);
        room = omega (arith, room, none);
        least = omega (arith, none, f.blocks);
        most = omega (arith, none, f.blocks);
        others = omega (arith, none, f.blocks);
      },
    )

pub returns : goal.returns
returns c =
    let a = c.args in
    let p = c.requires in
    let f = p.1.0.0 in
    let size = each a.shape.size in
    let from = c.list_choices-from.result in
    let e = c.list_choices-from.ensures in (
      c.sweep.ensures.0,
      λ row vs next light x m.
          let j = p.0.1.1.0 in
          let known = known-low a.l a.heavy row a.known.now a.j light j in
          let brings = crosses-brings x p.0.0 j a.known.now light a.heavy.n a.heavy.block refl refl in
          let is =
          (rw (c.from.ensures, c.from-2.ensures) at c.missing-need.ensures.1)
          (brought_in a.l a.heavy vs a.j a.heavy.n) known brings in
          let offers : (b : ℕ) → b < a.heavy.n
          → Offers a.l a.heavy a.z.now vs a.j b _ (next b * stride size b) (get_or from b 0)
          (get_or from (b + 1) 0) =
          λ b h. (e.1.1 b h).1.offers a.numbers.now row vs (each a.left) next refl x (x.falls b h) in
          let gains = c.sweep.ensures.1 (its from size next offers) (its_picks from size next offers) in
          let same = ap (state size next) f.blocks in
          rw same (its_above from size next offers gains c.start.ensures is (rw same at m)),
    )
